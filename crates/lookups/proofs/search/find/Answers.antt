use Rattle.std.proofs.Common.{◌∙◌, List, sym}
use Rattle.std.proofs.lemmas.Bool.{true≢false}
use Rattle.std.specs.Cmp.Lexicographic.{bytes_decides}
use Rattle.lookups.specs.declared.rows.NamedNode.{NamedNode}
use Rattle.lookups.proofs.Firsts.{found_there, found_nowhere, found_past}
use Rattle.lookups.proofs.search.find.Goals as goal
use Rattle.lookups.proofs.search.find.Goals.{else-place-rows-via-then-place-rows+else-is_same}
use Rattle.lookups.proofs.search.find.Goals.{else-place-rows-via-else-place-rows}

pub returns-then-is_same : goal.returns-then-is_same
returns-then-is_same c = λ up.
    let ys : List NamedNode = c.args.rows.now in
    sym (found_there ys c.args.name.now up c.rows_before-place.result
    (c.rows_before-place.ensures.parts up) _ c.if-place-rows.true
    ((bytes_decides _ c.args.name.now).0 (sym c.is_same.ensures ∙ c.if-is_same.true)))

pub returns : goal.returns
returns c = λ up.
    let ys : List NamedNode = c.args.rows.now in
    let parts = c.rows_before-place.ensures.parts up in
    elim c.else-place-rows.branch [
      | else-place-rows-via-then-place-rows+else-is_same w ↦
          sym (found_nowhere ys c.args.name.now up c.rows_before-place.result parts _ w.if-place-rows.true
          (λ e. true≢false (sym ((bytes_decides _ c.args.name.now).1 e)
          ∙ (sym w.is_same.ensures ∙ w.if-is_same.false))))
      | else-place-rows-via-else-place-rows w ↦
          sym (found_past ys c.args.name.now up c.rows_before-place.result parts
          (record { name = c.args.name; node = record { 0 = 0 } }) w.if-place-rows.false)
    ]
