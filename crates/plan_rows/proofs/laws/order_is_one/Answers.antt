use Rattle.plan_rows.proofs.Rising.{same_row}
use Rattle.plan_rows.proofs.laws.order_is_one.Goals as goal

pub returns : goal.returns
returns c = λ one other p q f g. same_row one other p q f g
