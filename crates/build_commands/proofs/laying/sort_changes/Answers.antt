use Rattle.std.proofs.Common.{rules}
use Rattle.std.proofs.lemmas.Fn.{always_returns_same}
use Rattle.build_commands.proofs.laying.sort_changes.Goals as goal

pub returns-clause-order : goal.returns-clause-order
returns-clause-order c =
    c.in_ok-sort_by_key.ensures.sorted (λ f. f.line) (always_returns_same _ _ _ (λ a r k called. search rules))

pub returns-clause-stable : goal.returns-clause-stable
returns-clause-stable c =
    c.in_ok-sort_by_key.ensures.stable (λ f. f.line) (always_returns_same _ _ _ (λ a r k called. search rules))
