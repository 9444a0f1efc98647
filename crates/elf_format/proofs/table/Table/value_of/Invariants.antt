use Rattle.std.proofs.Common.{◌≡◌, ℕ, ◌<◌, ◌==◌, false}
use Rattle.elf_format.specs.Needs.{entry_at}
use Rattle.elf_format.proofs.table.Table.value_of.Given as goal

abbrev pub invariant-loop-index : goal.invariant-loop-index
invariant-loop-index l =
    (k : ℕ) → k < l.index → ((entry_at l.self.class l.self.order l.b l.self.at k).0 == l.tag) ≡ false
