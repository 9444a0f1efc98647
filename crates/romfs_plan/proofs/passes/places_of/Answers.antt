use Rattle.std.proofs.Common.{◌≡◌, List, IfOk, length, map, ap, subst, ◌∙◌}
use Rattle.std.proofs.lemmas.List.{length-map}
use Rattle.plan_rows.specs.Rows.{row_view}
use Rattle.romfs_plan.specs.declared.places.Place.{Place}
use Rattle.romfs_plan.proofs.Passing.{length-places, places_are}
use Rattle.romfs_plan.proofs.passes.places_of.Goals as goal

pub linked-requires-clause-places : goal.linked-requires-clause-places
linked-requires-clause-places c =
    ap length (c.deref.ensures.value ∙ c.in_ok-places.ensures)
    ∙ length-places c.args.from (map row_view c.args.rows.now)
    ∙ length-map c.args.rows.now row_view

pub returns-clause-named : goal.returns-clause-named
returns-clause-named c = λ n e low.
    subst (λ (ps : List Place). IfOk c.linked.result (λ v. v.items ≡ ps))
    (places_are c.args.from (map row_view c.args.rows.now) c.deref.result.now n e
    (c.deref.ensures.value ∙ c.in_ok-places.ensures) low) c.linked.ensures
