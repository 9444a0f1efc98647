use Rattle.std.proofs.Common.{sym, ap, ap₂, ◌∙◌, ◌<◌, ℕ, Bool, false, List, [], ◌∷◌, ◌++◌, length, get_or}
use Rattle.std.specs.Prelude.{◌&&◌}
use Rattle.path_patterns.specs.Patterns.{has, starts}
use Rattle.path_patterns.proofs.Rows.{next_character, starts_more, row_end, row_more}
use Rattle.path_patterns.proofs.matching.row_of_one.Goals as goal

pub loop-i-init : goal.loop-i-init
loop-i-init c = λ f h. c.in_ok-push.ensures.items
    ∙ ap (λ (r : List Bool). r ++ false ∷ []) c.new-row.ensures.items
    ∙ sym (row_end (starts c.args.set.now f) c.args.path.now)

pub loop-i-preserved : goal.loop-i-preserved
loop-i-preserved c = λ f h.
    let path : List ℕ = c.args.path.now in
    let i : ℕ = c.loop-i.i in
    let s = c.args.set.now in
    let test : i < length path = c.loop-i-test.true in
    let next = next_character path i c.index-path-path.result test c.index-path-path.is in
    let now = c.both.ensures
    ∙ ap₂ ◌&&◌ (c.has.ensures ∙ ap (has s) next) (ap (λ (r : List Bool). get_or r i false) h)
    ∙ sym (starts_more s f path i test) in
    c.in_ok-push-2.ensures.items ∙ ap₂ (λ (r : List Bool) (b : Bool). r ++ b ∷ []) (c.loop-i.invariant f h) now
    ∙ sym (row_more (starts s f) path i test)
