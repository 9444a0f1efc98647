use Rattle.std.proofs.Common.{◌≡◌, ℕ, ◌<◌, true}
use Rattle.elf_format.specs.Needs.{entry_at, is_entry}
use Rattle.elf_format.proofs.table.Table.cut.Given as goal

abbrev pub invariant-loop-index : goal.invariant-loop-index
invariant-loop-index l =
    (k : ℕ) → k < l.index → is_entry (entry_at l.self.class l.self.order l.b l.self.at k) ≡ true
