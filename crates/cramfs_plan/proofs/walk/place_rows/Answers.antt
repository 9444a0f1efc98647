use Rattle.std.proofs.Common.{◌≡◌, ℕ, ◌+◌, ◌*◌, ◌^◌, get_or, sym, subst, ◌∙◌, arith}
use Rattle.plan_rows.specs.Rows.{row_view}
use Rattle.cramfs_plan.specs.Entries.{entry_view}
use Rattle.cramfs_plan.specs.Passes.{step}
use Rattle.cramfs_plan.specs.Placers.{IsNear}
use Rattle.cramfs_plan.proofs.Placing.{no_row, walk_step, after_step, more_items}
use Rattle.cramfs_plan.proofs.walk.place_rows.Goals as goal

pub loop-i-preserved : goal.loop-i-preserved
loop-i-preserved c =
    let w = c.loop-i.invariant.walk in
    let e = c.in_ok-place.ensures in
    let many = c.requires.many in
    let below = c.loop-i-test.true in
    record {
      near = subst (λ n. IsNear n c.place.new.self) (further c.loop-i.i)
          (e.near (2 ^ 24 + 2 ^ 7 + c.loop-i.i * 2 ^ 26) c.loop-i.invariant.near);
      walk = (
        step w.0 (row_view (get_or c.args.rows.now c.loop-i.i no_row)) (get_or c.args.lens.now c.loop-i.i 0),
        e.stands w.0 w.1,
        more_items entry_view c.loop-i.entries.items c.push.new.self.items c.in_ok-place.field-0 _ _ _ _
            c.in_ok-push.ensures.items (e.entry w.0 w.1)
            (walk_step c.args.order w.0 c.args.rows.now c.args.lens.now c.loop-i.i no_row below
            (omega (arith, below, many))) w.2,
        sym (after_step w.0 c.args.rows.now c.args.lens.now c.loop-i.i no_row below (omega (arith, below, many))) ∙ w.3,
      );
    }
  where
    further : (i : ℕ) → 2 ^ 24 + 2 ^ 7 + i * 2 ^ 26 + 2 ^ 26 ≡ 2 ^ 24 + 2 ^ 7 + (i + 1) * 2 ^ 26
    further i = omega arith
