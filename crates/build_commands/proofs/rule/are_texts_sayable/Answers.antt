use Rattle.std.proofs.Common.{◌∙◌, ap, sym, string_bytes}
use Rattle.build_commands.specs.Names.{is_sayable}
use Rattle.build_commands.proofs.Spelled.{one_refused}
use Rattle.build_commands.proofs.rule.are_texts_sayable.Goals as goal

pub returns-then-not-is_sayable : goal.returns-then-not-is_sayable
returns-then-not-is_sayable c =
    one_refused is_sayable string_bytes c.args.names.now c.loop-name.name-index c.name-item.result c.loop-name-test.true
    (ap (λ s. is_sayable (string_bytes s)) (sym c.name-item.is) ∙ ap is_sayable (sym c.as_bytes.ensures.value)
    ∙ sym c.is_sayable.ensures ∙ c.if-not-is_sayable.true)
