use Rattle.rom_fields.proofs.Words.{words_sum-balanced}
use Rattle.rom_fields.proofs.Sealed.{words_sum-sealed}
use Rattle.rom_fields.proofs.laws.sums_are_zero.Goals as goal

pub returns-clause-balanced : goal.returns-clause-balanced
returns-clause-balanced c = words_sum-balanced

pub returns-clause-sealed : goal.returns-clause-sealed
returns-clause-sealed c = words_sum-sealed
