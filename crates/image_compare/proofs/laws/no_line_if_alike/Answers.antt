use Rattle.image_compare.proofs.Agreed.{none_alike, alike_none}
use Rattle.image_compare.proofs.laws.no_line_if_alike.Goals as goal

pub returns-clause-alike : goal.returns-clause-alike
returns-clause-alike c = λ places a b xs ys h. none_alike places a b xs ys h

pub returns-clause-none : goal.returns-clause-none
returns-clause-none c = λ places a b xs ys h. alike_none places a b xs ys h
