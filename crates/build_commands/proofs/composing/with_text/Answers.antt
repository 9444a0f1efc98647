use Rattle.std.proofs.Common.{List, ℕ, Some, subst}
use Rattle.build_commands.specs.Composed.{IsLaidBy}
use Rattle.build_commands.proofs.composing.with_text.Goals as goal

pub returns-in-Ok-clause-laid : goal.returns-in-Ok-clause-laid
returns-in-Ok-clause-laid g c = (
  Some c.in-Ok-Some.text.items,
  rw c.in-Ok-Some.field-0-is at c.in-Ok-Some.ensures,
  subst (λ (t : List ℕ). IsLaidBy c.args.which c.args.files.items t c.in-Ok.laid.items) c.deref.ensures.value
      c.in-Ok.ensures.laid,
)
