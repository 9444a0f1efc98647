use Rattle.path_patterns.proofs.Sets as sets
use Rattle.path_patterns.proofs.laws.several_patterns.Goals as goal

pub returns-clause-only : goal.returns-clause-only
returns-clause-only c = sets.several_only
