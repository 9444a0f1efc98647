use Rattle.image_build.specs.Each.{value_given}
use Rattle.image_build.specs.Streamed.{image_with}
use Rattle.formats.specs.Format.{romfs}
use Rattle.headline.proofs.Copies.{each_fine, each_found, each_known}
use Rattle.headline.proofs.NotRefused.{path_fine}
use Rattle.headline.proofs.Totals.{none_counted}
use Rattle.headline.proofs.in_place.streamed_is_found.Goals as goal

pub returns-clause-built : goal.returns-clause-built
returns-clause-built c = λ text p known old new base a q is once w ok asked.
    let f = p.format in
    let bytes = image_with p w.rest in
    let m = is.manifest in
    let b = c.streamed_is_accepted.ensures.built text p known old new is once w in (
      b.contents,
      b.sized,
      c.built_is_found.ensures f text b.contents bytes is.lines base a q b.built m ok asked,
      c.planned_is_not_refused.ensures.total f text b.contents bytes is.lines base a q b.built m ok asked,
    )

pub returns-clause-each : goal.returns-clause-each
returns-clause-each c = λ text p known old new base a q is e w ok asked.
    let law = c.planned_is_found.ensures in
    let m = is.lines in
    let k = each_known c.one_tree.ensures c.fitting_is_planned.ensures c.layout_has_tree.ensures
    c.names_lead_to_files.ensures text p known old new a is e w ok in (
      k.given,
      k.read,
      each_found law m p.sizes k.given base a q k.known asked,
      λ none. none_counted a q k.known.paths (path_fine law romfs m p.sizes (value_given k.given) base a q k.known
          asked (each_fine m p.sizes k.given base none)),
    )
