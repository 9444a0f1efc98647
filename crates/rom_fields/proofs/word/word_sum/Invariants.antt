use Rattle.std.proofs.Common.{◌≡◌, ◌+◌, ◌^◌, ◌%◌, length}
use Rattle.rom_fields.specs.Words.{words_total}
use Rattle.rom_fields.proofs.word.word_sum.Given as goal

-- the sum so far and that of the rest
abbrev pub invariant-loop-rest : goal.invariant-loop-rest
invariant-loop-rest l = (l.sum + words_total l.rest) % 2 ^ 32 ≡ words_total l.b % 2 ^ 32

abbrev pub decreases-loop-rest : goal.decreases-loop-rest
decreases-loop-rest l = length l.rest
