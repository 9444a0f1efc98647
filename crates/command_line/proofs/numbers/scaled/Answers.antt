use Rattle.std.proofs.Common.{rules}
use Rattle.command_line.proofs.Sizes.{units}
use Rattle.command_line.proofs.numbers.scaled.Goals as goal

pub returns : goal.returns
returns c =
    units c.args.word.now c.in_ok-letter.digits.now c.in_ok-letter.letter.now c.in_ok-unit.unit
    c.in_ok-number.field-0 c.checked_mul.result _ (search rules) (search rules) c.in_ok-number.ensures
    c.checked_mul.ensures
