use Rattle.image_build.specs.Accepted.{usual}
use Rattle.image_build.specs.Each.{IsReadIn}
use Rattle.image_build.specs.Streamed.{image_with}
use Rattle.image_build.proofs.Accepting.{laid_each, each_tree}
use Rattle.image_build.proofs.Bodies.{none_read, of_read}
use Rattle.image_build.proofs.Sealing.{sealed_by}
use Rattle.image_build.proofs.Unknown.{unknown}
use Rattle.image_build.proofs.Whole.{refused}
use Rattle.image_build.proofs.laws.streamed_is_accepted.Goals as goal

pub returns-clause-faultless : goal.returns-clause-faultless
returns-clause-faultless c = λ text p known old new is w.
    let one = c.one_tree.ensures (image_with p w.rest) usual usual in
    let x = laid_each c.fitting_is_planned.ensures c.layout_is_meant.ensures.tree c.layout_has_tree.ensures
    c.names_lead_to_files.ensures text p is (IsReadIn w.answers) (none_read w.answers) w.rest one
    (of_read w.answers _ _ _ w.rest w.read) in
    c.exact.ensures.tree (image_with p w.rest) usual x.0 x.1

pub returns-clause-refused : goal.returns-clause-refused
returns-clause-refused c = λ text p known old new e is w r.
    let one = c.one_tree.ensures (image_with p w.rest) usual usual in
    let x = laid_each c.fitting_is_planned.ensures c.layout_is_meant.ensures.tree c.layout_has_tree.ensures
    c.names_lead_to_files.ensures text p is (IsReadIn w.answers) (none_read w.answers) w.rest one
    (of_read w.answers _ _ _ w.rest w.read) in
    refused (image_with p w.rest) e (x.0, x.1) r

pub returns-clause-each : goal.returns-clause-each
returns-clause-each c = λ text p known old new t is w h.
    let one = c.one_tree.ensures (image_with p w.rest) usual usual in
    let x = laid_each c.fitting_is_planned.ensures c.layout_is_meant.ensures.tree c.layout_has_tree.ensures
    c.names_lead_to_files.ensures text p is (IsReadIn w.answers) (none_read w.answers) w.rest one
    (of_read w.answers _ _ _ w.rest w.read) in
    each_tree (IsReadIn w.answers) text p is (image_with p w.rest) one x t h

pub returns-clause-built : goal.returns-clause-built
returns-clause-built c = λ text p known old new is none w.
    unknown c.fitting_is_planned.ensures c.layout_is_meant.ensures.tree text p is none (IsReadIn w.answers) w.rest
    (of_read w.answers _ _ _ w.rest w.read)

pub returns-clause-sealed : goal.returns-clause-sealed
returns-clause-sealed c = λ text p known old new is w.
    sealed_by c.fitting_is_planned.ensures c.layout_is_meant.ensures.tree c.layout_is_sealed-2.ensures
    c.layout_is_sealed.ensures text p is (IsReadIn w.answers) (none_read w.answers) w.rest
    (of_read w.answers _ _ _ w.rest w.read)
