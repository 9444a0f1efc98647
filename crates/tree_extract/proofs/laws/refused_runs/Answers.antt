use Rattle.tree_extract.proofs.Refusals as refusals
use Rattle.tree_extract.proofs.laws.refused_runs.Goals as goal

pub returns-clause-link : goal.returns-clause-link
returns-clause-link c = refusals.through_link

pub returns-clause-outside : goal.returns-clause-outside
returns-clause-outside c = refusals.outside

pub returns-clause-twice : goal.returns-clause-twice
returns-clause-twice c = refusals.twice

pub returns-clause-left_out : goal.returns-clause-left_out
returns-clause-left_out c = refusals.left_out

pub returns-clause-foreign : goal.returns-clause-foreign
returns-clause-foreign c = refusals.foreign

pub returns-clause-rights : goal.returns-clause-rights
returns-clause-rights c = refusals.rights

pub returns-clause-other : goal.returns-clause-other
returns-clause-other c = refusals.other_rights
