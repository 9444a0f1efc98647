use Rattle.std.proofs.Common.{List, ℕ, subst}
use Rattle.command_line.specs.Numbers.{IsSize}
use Rattle.command_line.proofs.numbers.size_named.Goals as goal

pub returns-in-Some : goal.returns-in-Some
returns-in-Some c = subst (λ (w : List ℕ). IsSize w c.in-Some.size) c.as_bytes-word.ensures.value c.in-Some.ensures
