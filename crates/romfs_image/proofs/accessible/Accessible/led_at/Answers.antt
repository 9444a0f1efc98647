use Rattle.std.proofs.Common.{arith, refl, ◌≡◌, ◌+◌, ℕ, suc, sym, subst, ◌∙◌}
use Rattle.romfs_format.specs.Tree.{led}
use Rattle.romfs_image.proofs.Reading.{led_more, led_stay}
use Rattle.romfs_image.proofs.accessible.Accessible.led_at.Goals as goal
use Rattle.romfs_image.proofs.accessible.Accessible.led_at.Goals.{then-type_at-eq0, else-type_at-eq0}

pub loop-i-init : goal.loop-i-init
unfolding led
loop-i-init c = refl

pub loop-i-preserved : goal.loop-i-preserved
loop-i-preserved c =
    let one : suc c.loop-i.i ≡ c.loop-i.i + 1 = omega arith in
    let P : ℕ → Type 0 = λ n. c.if-type_at-eq0.p ≡ led n c.args.self.now.bytes.now c.args.at in
    subst P one (elim c.if-type_at-eq0.branch [
      | then-type_at-eq0 w ↦ w.p-is ∙ w.spec_offset-p.ensures
          ∙ led_more c.args.self.now.bytes.now c.loop-i.i c.loop-i.p c.args.at c.loop-i.invariant
          (sym c.type_at.ensures ∙ w.if-type_at-eq0.true)
      | else-type_at-eq0 w ↦ w.p-is ∙ led_stay c.args.self.now.bytes.now c.loop-i.i c.loop-i.p c.args.at
          c.loop-i.invariant (λ e. w.if-type_at-eq0.false (c.type_at.ensures ∙ e))
    ])
