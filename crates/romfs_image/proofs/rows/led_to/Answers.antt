use Rattle.std.proofs.Common.{◌≡◌, ◌+◌, ◌-◌, ℕ, suc, sym, ap, ◌∙◌, arith}
use Rattle.romfs_format.specs.Tree.{follow}
use Rattle.romfs_image.proofs.Steps.{step_done, step_lost, step_more, step_end, row_sound}
use Rattle.romfs_image.proofs.rows.led_to.Goals as goal

pub returns-then-type_at-ne0-clause-leads : goal.returns-then-type_at-ne0-clause-leads
returns-then-type_at-ne0-clause-leads c =
    sym (step_done _ _ (8 - c.links.i) c.links.p (λ e. c.if-type_at-ne0.true (c.type_at.ensures ∙ e)))
    ∙ c.links.invariant.same

pub returns-then-not-is_among-clause-leads : goal.returns-then-not-is_among-clause-leads
returns-then-not-is_among-clause-leads c =
    sym (step_lost _ _ (8 - c.links.i) c.links.p _
    (sym c.type_at.ensures ∙ c.if-type_at-ne0.false) c.spec_offset-target.ensures
    (sym c.is_among.ensures ∙ c.if-not-is_among.true))
    ∙ c.links.invariant.same

pub links-preserved : goal.links-preserved
links-preserved c =
    let left : 8 - c.links.i ≡ suc (8 - (c.links.i + 1)) = omega arith in
    let among = sym c.is_among.ensures ∙ c.if-not-is_among.false in
    record {
      same = sym (step_more _ _ (8 - (c.links.i + 1)) c.links.p _
          (sym c.type_at.ensures ∙ c.if-type_at-ne0.false) c.spec_offset-target.ensures among)
          ∙ ap (λ (n : ℕ). follow c.args.b.now.bytes.now c.args.rows.now n c.links.p) (sym left)
          ∙ c.links.invariant.same;
      sound = row_sound _ _ _ _ c.requires.rows among;
    }

pub returns-then-type_at-eq0-clause-leads : goal.returns-then-type_at-eq0-clause-leads
returns-then-type_at-eq0-clause-leads c =
    let spent : 8 - c.links.i ≡ 0 = omega arith in
    sym (step_end _ _ c.links.p (sym c.type_at-2.ensures ∙ c.if-type_at-eq0.true))
    ∙ ap (λ (n : ℕ). follow c.args.b.now.bytes.now c.args.rows.now n c.links.p) (sym spent) ∙ c.links.invariant.same

pub returns-else-type_at-eq0-clause-leads : goal.returns-else-type_at-eq0-clause-leads
returns-else-type_at-eq0-clause-leads c =
    sym (step_done _ _ (8 - c.links.i) c.links.p (λ e. c.if-type_at-eq0.false (c.type_at-2.ensures ∙ e)))
    ∙ c.links.invariant.same
