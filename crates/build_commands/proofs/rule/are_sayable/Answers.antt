use Rattle.std.proofs.Common.{◌∙◌, ap, sym}
use Rattle.build_commands.specs.Names.{is_sayable}
use Rattle.build_commands.proofs.Spelled.{one_refused}
use Rattle.build_commands.proofs.rule.are_sayable.Goals as goal

pub returns-then-not-is_sayable : goal.returns-then-not-is_sayable
returns-then-not-is_sayable c =
    one_refused is_sayable (λ n. n.now) c.args.names.now c.loop-name.name-index _ c.loop-name-test.true
    (ap is_sayable (sym c.as_bytes.ensures.value) ∙ sym c.is_sayable.ensures ∙ c.if-not-is_sayable.true)
