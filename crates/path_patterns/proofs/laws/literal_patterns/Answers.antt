use Rattle.path_patterns.proofs.Literal as literal
use Rattle.path_patterns.proofs.laws.literal_patterns.Goals as goal

pub returns-clause-read : goal.returns-clause-read
returns-clause-read c = λ text h. (_, literal.literal_parts text h)

pub returns-clause-itself : goal.returns-clause-itself
returns-clause-itself c = literal.itself

pub returns-clause-only : goal.returns-clause-only
returns-clause-only c = literal.only
