use Rattle.std.proofs.Common.{◌≡◌, ℕ, ◌<◌, true, slice_index}
use Rattle.elf_format.specs.Needs.{is_blank}
use Rattle.elf_format.proofs.script.blanks.Given as goal

abbrev pub invariant-loop-i : goal.invariant-loop-i
invariant-loop-i l = (k : ℕ) → k < l.i → is_blank (slice_index l.b k) ≡ true
