use Rattle.image_build.specs.Accepted.{usual}
use Rattle.image_build.proofs.Whole.{tree_of, refused, meant, sealed}
use Rattle.image_build.proofs.laws.built_is_accepted.Goals as goal

pub returns-clause-faultless : goal.returns-clause-faultless
returns-clause-faultless c = λ f text cs bytes x.
    let t = tree_of f text cs bytes x in
    c.exact.ensures.tree bytes usual t.0 t.1

pub returns-clause-refused : goal.returns-clause-refused
returns-clause-refused c = λ f text cs bytes e x r. refused bytes e (tree_of f text cs bytes x) r

pub returns-clause-meant : goal.returns-clause-meant
returns-clause-meant c = λ f text cs bytes. meant f text cs bytes (λ t u. c.one_tree.ensures bytes usual usual t u)

pub returns-clause-sealed : goal.returns-clause-sealed
returns-clause-sealed c = sealed c.layout_is_sealed.ensures
