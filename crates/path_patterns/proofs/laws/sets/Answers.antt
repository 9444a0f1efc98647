use Rattle.path_patterns.proofs.Sets as sets
use Rattle.path_patterns.proofs.laws.sets.Goals as goal

pub returns-clause-only : goal.returns-clause-only
returns-clause-only c = sets.set_only

pub returns-clause-others : goal.returns-clause-others
returns-clause-others c = sets.set_others
