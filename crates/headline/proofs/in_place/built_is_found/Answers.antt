use Rattle.headline.proofs.Found.{are_found}
use Rattle.headline.proofs.Known.{known}
use Rattle.headline.proofs.in_place.built_is_found.Goals as goal

pub returns : goal.returns
returns c = λ f text cs bytes m base a q x e ok asked.
    are_found c.planned_is_found.ensures f m cs base a q
    (known c.one_tree.ensures c.fitting_is_planned.ensures f text cs bytes m a x e ok) asked
