use Rattle.std.proofs.Common.{◌≡◌, false}
use Rattle.elf_format.specs.Dynamic.{moves_among}
use Rattle.elf_format.proofs.dynamic.moves_text.Given as goal

abbrev pub invariant-loop-index : goal.invariant-loop-index
invariant-loop-index l = moves_among l.b l.header l.index ≡ false
