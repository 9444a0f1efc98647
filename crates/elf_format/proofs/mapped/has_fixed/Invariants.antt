use Rattle.std.proofs.Common.{◌≡◌, false}
use Rattle.elf_format.specs.Mapped.{fixed_among}
use Rattle.elf_format.proofs.mapped.has_fixed.Given as goal

abbrev pub invariant-loop-index : goal.invariant-loop-index
invariant-loop-index l = fixed_among l.b l.header l.index ≡ false
