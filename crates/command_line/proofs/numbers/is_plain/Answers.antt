use Rattle.std.proofs.Common.{rules, ◌∙◌, ap}
use Rattle.command_line.specs.Numbers.{is_plain}
use Rattle.command_line.proofs.Plain.{plain}
use Rattle.command_line.proofs.numbers.is_plain.Goals as goal

pub returns-then-not-is_empty : goal.returns-then-not-is_empty
returns-then-not-is_empty c =
    plain c.as_bytes.result.now c.memchr2.result c.is_none.result (search rules) c.memchr2.ensures c.is_none.ensures
    ∙ ap is_plain c.as_bytes.ensures.value
