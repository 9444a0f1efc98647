use Rattle.image_build.proofs.Answered.{given, alone}
use Rattle.image_build.proofs.laws.one_answer.Goals as goal

pub returns-clause-given : goal.returns-clause-given
returns-clause-given c = given c.one_answer.ensures.given c.layout_is_meant.ensures.tree

pub returns-clause-alone : goal.returns-clause-alone
returns-clause-alone c = alone c.one_answer.ensures.excluded c.one_answer.ensures.alone
