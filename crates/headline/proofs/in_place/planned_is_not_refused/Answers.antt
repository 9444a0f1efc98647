use Rattle.std.proofs.Common.{length, map}
use Rattle.manifest_tree.specs.Shape.{file_value}
use Rattle.headline.proofs.Known.{known}
use Rattle.headline.proofs.NotRefused.{built_fine, path_fine}
use Rattle.headline.proofs.Totals.{none_counted}
use Rattle.headline.proofs.in_place.planned_is_not_refused.Goals as goal

pub returns-clause-found : goal.returns-clause-found
returns-clause-found c = λ f text cs bytes m base a q path x b e ok asked none under.
    path_fine c.planned_is_found.ensures f m (map length cs) (file_value cs) base a q
    (known c.one_tree.ensures c.fitting_is_planned.ensures f text cs bytes m a b e ok) asked
    (built_fine f m cs base none) path x under

pub returns-clause-total : goal.returns-clause-total
returns-clause-total c = λ f text cs bytes m base a q b e ok asked none.
    let k = known c.one_tree.ensures c.fitting_is_planned.ensures f text cs bytes m a b e ok in
    none_counted a q k.paths
    (path_fine c.planned_is_found.ensures f m (map length cs) (file_value cs) base a q k asked
    (built_fine f m cs base none))
