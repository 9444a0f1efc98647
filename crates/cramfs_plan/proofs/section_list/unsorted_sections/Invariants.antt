use Rattle.std.proofs.Common.{◌≡◌, ◌++◌, List, drop, map}
use Rattle.manifest_tree.specs.Items.{Item}
use Rattle.manifest_layout.specs.Views.{item_view, section_view}
use Rattle.cramfs_layout.specs.Items.{sections_from}
use Rattle.cramfs_plan.specs.Tables.{HoldsTables, unsorted}
use Rattle.cramfs_plan.proofs.section_list.unsorted_sections.Given as goal

abbrev pub invariant-loop-i : goal.invariant-loop-i
invariant-loop-i l = record {
  done :
      (earlier : List Item) × HoldsTables earlier l.seen
      × (map section_view l.found.items ++ sections_from earlier l.i (map item_view (drop l.i l.items))
      ≡ unsorted (map item_view l.items));
}
