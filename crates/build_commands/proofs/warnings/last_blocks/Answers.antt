use Rattle.std.proofs.Common.{map, ap, sym, ◌∙◌, refl}
use Rattle.build_commands.specs.Foreseen.{cramfs_is}
use Rattle.build_commands.proofs.Blocks.{all_kept, one_kept, one_left}
use Rattle.build_commands.proofs.warnings.last_blocks.Goals as goal
use Rattle.build_commands.proofs.warnings.last_blocks.Goals.{then-cramfs_line+in_ok-push, else-cramfs_line}

pub loop-line-preserved : goal.loop-line-preserved
loop-line-preserved c =
    let ls = c.args.manifest.now.lines in
    let i = c.loop-line.line-index in
    let l = c.line-item.result in
    let kept = c.loop-line.invariant.0 in
    let below' = c.loop-line-test.true in
    let below = rw kept at below' in
    let is' = c.line-item.is in
    let is = rw kept at is' in (
      kept,
      λ sizes h f.
          let by = sym (ap (λ x. x.last_block) (c.cramfs_line.ensures sizes h f)) in
          elim c.if-cramfs_line.branch [
            | then-cramfs_line+in_ok-push w ↦
                ap (λ v. map (λ k. k.now) v.items) w.found-is
                ∙ one_kept (cramfs_is (λ x. x.last_block) ls sizes) ls _ _ _ i l l below is (by ∙ w.if-cramfs_line.true)
                (c.loop-line.invariant.1 sizes h f) w.in_ok-push.ensures.items refl
            | else-cramfs_line w ↦
                ap (λ v. map (λ k. k.now) v.items) w.found-is
                ∙ one_left (cramfs_is (λ x. x.last_block) ls sizes) ls _ i l l below is (by ∙ w.if-cramfs_line.false)
                (c.loop-line.invariant.1 sizes h f)
          ],
    )

pub returns : goal.returns
returns c =
    let ls = c.args.manifest.now.lines in
    let sizes = c.args.sizes.now in
    let kept = c.loop-line.invariant.0 in
    let end' = c.loop-line-test.false in
    let end = rw kept at end' in
    let h = c.in_ok-files.ensures in
    all_kept (cramfs_is (λ x. x.last_block) ls sizes) ls _ c.loop-line.line-index
    (c.loop-line.invariant.1 sizes h (c.in_ok-first.ensures sizes h)) end
