use Rattle.tree_extract.proofs.Chosen.{can_with, choice_fits}
use Rattle.tree_extract.proofs.laws.can_be_chosen.Goals as goal

pub returns-clause-fit : goal.returns-clause-fit
returns-clause-fit c = choice_fits

pub returns-clause-can : goal.returns-clause-can
returns-clause-can c = can_with
