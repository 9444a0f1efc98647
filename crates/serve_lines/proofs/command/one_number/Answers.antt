use Rattle.std.proofs.Common.{sym, ap, ◌∙◌}
use Rattle.serve_lines.specs.Commands.{number, numbered}
use Rattle.serve_lines.proofs.command.one_number.Goals as goal

pub returns-in_default-number : goal.returns-in_default-number
returns-in_default-number c = λ line.
    c.in-Some.ensures.field (λ f. number f line) ∙ ap (numbered line) (sym c.number.ensures ∙ c.in_default-number.is)

pub returns : goal.returns
returns c = λ line.
    c.in-Some.ensures.field (λ f. number f line) ∙ ap (numbered line) (sym c.number.ensures ∙ c.in-Some-number.is)
