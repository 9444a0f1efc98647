use Rattle.image_build.specs.Accepted.{usual}
use Rattle.image_build.proofs.Whole.{copies_in, laid_copies, laid_placed, placed_in, named}
use Rattle.image_build.proofs.laws.built_is_placed.Goals as goal

pub returns-clause-runs : goal.returns-clause-runs
returns-clause-runs c = λ f text cs bytes m x e.
    placed_in bytes m (λ t u. c.one_tree.ensures bytes usual usual t u)
    (laid_placed c.layout_is_placed.ensures.runs f text cs bytes x m e)

pub returns-clause-copies : goal.returns-clause-copies
returns-clause-copies c = λ f text cs bytes m x e.
    copies_in f bytes m (λ t u. c.one_tree.ensures bytes usual usual t u)
    (laid_copies c.layout_is_placed.ensures.copies f text cs bytes x m e)

pub returns-clause-named : goal.returns-clause-named
returns-clause-named c = λ f text cs bytes m x e. named c.layout_is_placed.ensures.named f text cs bytes x m e
