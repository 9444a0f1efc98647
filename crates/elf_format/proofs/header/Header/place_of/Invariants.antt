use Rattle.std.proofs.Common.{◌≡◌, ℕ, ◌<◌, false}
use Rattle.elf_format.specs.Header.{program_at}
use Rattle.elf_format.specs.Needs.{has_address}
use Rattle.elf_format.proofs.header.Header.place_of.Given as goal

abbrev pub invariant-loop-index : goal.invariant-loop-index
invariant-loop-index l = (k : ℕ) → k < l.index → has_address l.address l.b (program_at l.b l.self k) ≡ false
