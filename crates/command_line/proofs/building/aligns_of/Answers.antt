use Rattle.std.proofs.Common.{◌≡◌, List, ℕ, [], subst, sym, ap, ◌∙◌, map}
use Rattle.std.specs.Borrow.{Bor}
use Rattle.command_line.specs.Numbers.{AreAligns, no_align, next_align}
use Rattle.command_line.specs.declared.request.AlignRule.{AlignRule}
use Rattle.command_line.proofs.Loops.{map_more, whole}
use Rattle.command_line.proofs.building.aligns_of.Goals as goal

pub loop-word-init : goal.loop-word-init
loop-word-init c = subst (λ (rs : List AlignRule). AreAligns [] (4, rs)) (sym c.new.ensures.items) no_align

pub loop-word-preserved : goal.loop-word-preserved
loop-word-preserved c =
    let new : ℕ × List AlignRule = (c.note_align.new.aligns.usual, c.note_align.new.aligns.rules.items) in
    subst (λ (ws : List (List ℕ)). AreAligns ws new)
    (sym (map_more (λ v. v.now) c.deref-word-items.result.now c.loop-word.word-index _ c.loop-word-test.true))
    (next_align _ _ _ _ c.loop-word.invariant c.in_ok-note_align.ensures)

pub returns : goal.returns
returns c =
    subst (λ (ws : List (List ℕ)). AreAligns ws (c.loop-word.aligns.usual, c.loop-word.aligns.rules.items))
    (ap (map (λ v. v.now)) c.deref-word-items.ensures.value ∙ c.in_ok-words.ensures)
    (subst (λ (vs : List (Bor (List ℕ))). AreAligns (map (λ v. v.now) vs)
    (c.loop-word.aligns.usual, c.loop-word.aligns.rules.items))
    (whole c.deref-word-items.result.now c.loop-word.word-index c.loop-word-test.false) c.loop-word.invariant)
