use Rattle.std.proofs.Common.{◌≡◌, ℕ, ◌<◌, false}
use Rattle.elf_format.specs.Header.{program_at}
use Rattle.elf_format.specs.Needs.{is_segment}
use Rattle.elf_format.proofs.header.Header.segment.Given as goal

abbrev pub invariant-loop-index : goal.invariant-loop-index
invariant-loop-index l = (k : ℕ) → k < l.index → is_segment l.kind l.b (program_at l.b l.self k) ≡ false
