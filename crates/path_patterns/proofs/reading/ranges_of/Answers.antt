use Rattle.std.proofs.Common.{ℕ, ◌+◌, ◌-◌, List, length, Ok, refl, sym, ap, ◌∙◌}
use Rattle.std.specs.Prelude.{◌&&◌, not}
use Rattle.path_patterns.specs.Reading.{begins, is_nothing, ranges_from}
use Rattle.path_patterns.specs.declared.pattern.Range.{Range}
use Rattle.path_patterns.proofs.Steps.{ranges_end, ranges_more}
use Rattle.path_patterns.proofs.reading.ranges_of.Goals as goal

pub returns-then-is_end-clause-ok : goal.returns-then-is_end-clause-ok
returns-then-is_end-clause-ok c =
    let same = ap (λ (rs : List Range). begins 93 c.loop-i.rest.now && not (is_nothing rs)) (sym c.deref.ensures.value)
    ∙ sym c.if-is_end.ensures in
    sym c.loop-i.invariant
    ∙ ranges_end (length c.args.inside.now) c.loop-i.i c.loop-i.ranges.items c.loop-i.rest.now c.loop-i-test.true same
    ∙ ap (λ (r : List ℕ). Ok (c.loop-i.ranges.items, r)) (sym c.behind.ensures)

pub returns-in-Err-clause-err : goal.returns-in-Err-clause-err
returns-in-Err-clause-err c = λ _.
    let same = ap (λ (rs : List Range). begins 93 c.loop-i.rest.now && not (is_nothing rs)) (sym c.deref.ensures.value)
    ∙ sym c.if-is_end.ensures in
    sym c.loop-i.invariant
    ∙ ranges_more (length c.args.inside.now) c.loop-i.i c.loop-i.ranges.items c.loop-i.rest.now c.loop-i-test.true same
    ∙ rw c.in-Err.ensures.err refl

pub loop-i-preserved : goal.loop-i-preserved
loop-i-preserved c =
    let same = ap (λ (rs : List Range). begins 93 c.loop-i.rest.now && not (is_nothing rs)) (sym c.deref.ensures.value)
    ∙ sym c.if-is_end.ensures in
    let n : ℕ = length c.args.inside.now in
    let i : ℕ = c.loop-i.i in
    let more = ranges_more n i c.loop-i.ranges.items c.loop-i.rest.now c.loop-i-test.true same in
    let step = more ∙ rw c.in-Ok.ensures.ok refl in
    ap (λ (rs : List Range). ranges_from (n - (i + 1)) rs c.in-Ok.read.1.now) c.in_ok-push.ensures.items
    ∙ sym step ∙ c.loop-i.invariant
