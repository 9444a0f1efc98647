use Rattle.path_patterns.proofs.Literal as literal
use Rattle.path_patterns.proofs.laws.stars.Goals as goal

pub returns-clause-any : goal.returns-clause-any
returns-clause-any c = literal.star_any

pub returns-clause-only : goal.returns-clause-only
returns-clause-only c = literal.star_only
