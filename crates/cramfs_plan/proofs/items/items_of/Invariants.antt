use Rattle.std.proofs.Common.{◌≡◌, map, take}
use Rattle.manifest_layout.specs.Views.{item_view}
use Rattle.cramfs_plan.specs.Entries.{entry_view}
use Rattle.cramfs_plan.specs.Small.{cut}
use Rattle.cramfs_plan.proofs.items.items_of.Given as goal

abbrev pub invariant-loop-entry : goal.invariant-loop-entry
invariant-loop-entry l = record {
  done : map item_view l.items.items ≡ map (λ e. cut (entry_view e)) (take l.entry-index l.entries);
}
