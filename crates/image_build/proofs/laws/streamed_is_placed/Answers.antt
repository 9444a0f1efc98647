use Rattle.image_build.specs.Accepted.{usual}
use Rattle.image_build.specs.Each.{IsReadIn}
use Rattle.image_build.proofs.Bodies.{none_read, of_read}
use Rattle.image_build.specs.Streamed.{image_with}
use Rattle.image_build.proofs.Placing.{in_place}
use Rattle.image_build.proofs.Whole.{copies_in, placed_in}
use Rattle.image_build.proofs.laws.streamed_is_placed.Goals as goal

pub returns-clause-runs : goal.returns-clause-runs
returns-clause-runs c = λ text p known old new t is w h.
    let bytes = image_with p w.rest in
    let x = in_place c.fitting_is_planned.ensures c.layout_is_meant.ensures.tree c.layout_is_placed-2.ensures.runs
    c.layout_is_placed-2.ensures.apart c.layout_is_placed-2.ensures.named c.layout_is_placed.ensures.runs
    c.layout_is_placed.ensures.copies c.layout_is_placed.ensures.named text p is (IsReadIn w.answers)
    (none_read w.answers) w.rest (of_read w.answers _ _ _ w.rest w.read) in
    placed_in bytes is.lines (λ t u. c.one_tree.ensures bytes usual usual t u) x.tree t h

pub returns-clause-copies : goal.returns-clause-copies
returns-clause-copies c = λ text p known old new t is w h.
    let bytes = image_with p w.rest in
    let x = in_place c.fitting_is_planned.ensures c.layout_is_meant.ensures.tree c.layout_is_placed-2.ensures.runs
    c.layout_is_placed-2.ensures.apart c.layout_is_placed-2.ensures.named c.layout_is_placed.ensures.runs
    c.layout_is_placed.ensures.copies c.layout_is_placed.ensures.named text p is (IsReadIn w.answers)
    (none_read w.answers) w.rest (of_read w.answers _ _ _ w.rest w.read) in
    copies_in p.format bytes is.lines (λ t u. c.one_tree.ensures bytes usual usual t u) x.copies t h

pub returns-clause-holds : goal.returns-clause-holds
returns-clause-holds c = λ text p known old new is w.
    (in_place c.fitting_is_planned.ensures c.layout_is_meant.ensures.tree c.layout_is_placed-2.ensures.runs
    c.layout_is_placed-2.ensures.apart c.layout_is_placed-2.ensures.named c.layout_is_placed.ensures.runs
    c.layout_is_placed.ensures.copies c.layout_is_placed.ensures.named text p is (IsReadIn w.answers)
    (none_read w.answers) w.rest (of_read w.answers _ _ _ w.rest w.read)).holds

pub returns-clause-named : goal.returns-clause-named
returns-clause-named c = λ text p known old new is w.
    (in_place c.fitting_is_planned.ensures c.layout_is_meant.ensures.tree c.layout_is_placed-2.ensures.runs
    c.layout_is_placed-2.ensures.apart c.layout_is_placed-2.ensures.named c.layout_is_placed.ensures.runs
    c.layout_is_placed.ensures.copies c.layout_is_placed.ensures.named text p is (IsReadIn w.answers)
    (none_read w.answers) w.rest (of_read w.answers _ _ _ w.rest w.read)).volume
