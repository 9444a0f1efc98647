use Rattle.std.proofs.Common.{◌≡◌, ◌++◌, ◌∷◌, [], List, Some, ap, sym, ◌∙◌, suc, take, get_or, ◌+◌, arith}
use Rattle.image_manifest.specs.Open.{place_of_length}
use Rattle.image_manifest.specs.declared.naming.Open.{Open}
use Rattle.image_manifest.proofs.Entering.{parent_at, parent_none, opened_as, opened_all}
use Rattle.image_manifest.proofs.naming.close.Goals as goal

pub returns-then-place-len-clause-parent : goal.returns-then-place-len-clause-parent
returns-then-place-len-clause-parent c =
    let place = c.place_of_length-place.ensures.place ∙ ap (place_of_length c.args.len) c.deref.ensures.value in
    sym (parent_none c.args.len c.args.on_way.now.items (omega (arith, place, c.if-place-len.true, c.len.ensures)))

pub returns-then-place-len-clause-left : goal.returns-then-place-len-clause-left
returns-then-place-len-clause-left c = λ new.
    let place = c.place_of_length-place.ensures.place ∙ ap (place_of_length c.args.len) c.deref.ensures.value in
    opened_all c.args.len new c.args.on_way.now.items (omega (arith, place, c.if-place-len.true, c.len.ensures))

pub returns-clause-parent : goal.returns-clause-parent
returns-clause-parent c =
    let place = c.place_of_length-place.ensures.place ∙ ap (place_of_length c.args.len) c.deref.ensures.value in
    let o : Open = c.index.result.now in
    let here : o ≡ get_or c.args.on_way.now.items (place_of_length c.args.len c.args.on_way.now.items) o =
    c.index.ensures ∙ ap (λ v. get_or c.args.on_way.now.items v o) place in
    ap (λ (v : Open). Some v.index) here
    ∙ sym (parent_at c.args.len c.args.on_way.now.items o (omega (arith, place, c.if-place-len.false, c.len.ensures)))

pub returns-clause-left : goal.returns-clause-left
returns-clause-left c = λ new.
    let place = c.place_of_length-place.ensures.place ∙ ap (place_of_length c.args.len) c.deref.ensures.value in
    let most : c.place_of_length-place.result + 1 ≡ suc (place_of_length c.args.len c.args.on_way.now.items) =
    omega (arith, place) in
    opened_as c.args.len new c.args.on_way.now.items
    ∙ ap (λ (v : List Open). v ++ new ∷ [])
    (sym (c.truncate.ensures.items ∙ ap (λ v. take v c.args.on_way.now.items) most))
