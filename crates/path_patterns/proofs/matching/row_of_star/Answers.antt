use Rattle.std.proofs.Common.{sym, ap, ap₂, ◌∙◌, ◌≡◌, ◌+◌, ◌<◌, ℕ, Bool, false, List, [], ◌∷◌, ◌++◌, length, get_or}
use Rattle.std.specs.Prelude.{◌||◌}
use Rattle.path_patterns.specs.Patterns.{any_rest}
use Rattle.path_patterns.proofs.Rows.{any_end, any_more, row_end, row_first, row_more}
use Rattle.path_patterns.proofs.matching.row_of_star.Goals as goal

pub loop-i-init : goal.loop-i-init
loop-i-init c = λ f h.
    let path : List ℕ = c.args.path.now in
    let first : get_or c.args.behind.now 0 false ≡ f [] =
    ap (λ (r : List Bool). get_or r 0 false) h ∙ row_first f path in (
      c.in_ok-push.ensures.items
          ∙ ap₂ (λ (r : List Bool) (b : Bool). r ++ b ∷ []) c.new-row.ensures.items first
          ∙ sym (row_end (any_rest f) path),
      first ∙ sym (any_end f path),
    )

pub loop-i-preserved : goal.loop-i-preserved
loop-i-preserved c = λ f h.
    let path : List ℕ = c.args.path.now in
    let i : ℕ = c.loop-i.i in
    let test : i < length path = c.loop-i-test.true in
    let before = c.loop-i.invariant f h in
    let now = c.either-is_matched.ensures ∙ ap₂ ◌||◌ (ap (λ (r : List Bool). get_or r (i + 1) false) h) before.1
    ∙ sym (any_more f path i test) in (
      c.in_ok-push-2.ensures.items ∙ ap₂ (λ (r : List Bool) (b : Bool). r ++ b ∷ []) before.0 now
          ∙ sym (row_more (any_rest f) path i test),
      now,
    )
