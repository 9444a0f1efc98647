use Rattle.std.proofs.Common.{◌≡◌, ℕ, ◌-◌, rules, tests}
use Rattle.std.specs.Prelude.{nat_eq}
use Rattle.std.specs.Bool.{OnTrue}
use Rattle.rom_fields.specs.Words.{words_sum, part_of}
use Rattle.romfs_image.proofs.soundness.sums_to_zero.Goals as goal

zero_by : (r s : ℕ) → r ≡ s → OnTrue (nat_eq r 0) (s ≡ 0)
zero_by r s e = search (rules, tests)

pub returns-clause-zero : goal.returns-clause-zero
returns-clause-zero c = zero_by c.word_sum.result
    (words_sum (part_of c.args.b.now.bytes.now c.args.at (c.args.end - c.args.at))) c.word_sum.ensures
