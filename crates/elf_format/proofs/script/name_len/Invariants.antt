use Rattle.std.proofs.Common.{◌≡◌, ℕ, ◌<◌, false, slice_index}
use Rattle.elf_format.specs.Needs.{ends_name}
use Rattle.elf_format.proofs.script.name_len.Given as goal

abbrev pub invariant-loop-i : goal.invariant-loop-i
invariant-loop-i l = (k : ℕ) → k < l.i → ends_name (slice_index l.b k) ≡ false
