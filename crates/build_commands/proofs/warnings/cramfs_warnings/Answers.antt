use Rattle.std.proofs.Common.{ℕ, ◌==◌, ◌≤◌, Bool, List, length, ap, ◌∙◌, arith}
use Rattle.manifest.specs.declared.line.Line.{Line}
use Rattle.plan_rows.specs.Files.{IsOf}
use Rattle.build_commands.specs.Foreseen.{cramfs_is, of_image, told}
use Rattle.build_commands.specs.Planned.{AreFirst}
use Rattle.build_commands.proofs.Told.{all_counted, eleven, one_counted}
use Rattle.build_commands.proofs.warnings.cramfs_warnings.Goals as goal

pub loop-line-preserved : goal.loop-line-preserved
loop-line-preserved c =
    let ls = c.args.manifest.now.lines in
    let i = c.loop-line.line-index in
    let l = c.line-item.result in
    let known : List ℕ → Type 0 = λ s. IsOf ls s c.args.files.now × AreFirst ls s c.args.first.now in
    let kept = c.loop-line.invariant.all in
    let before = c.loop-line.invariant in
    let below' = c.loop-line-test.true in
    let below = rw kept at below' in
    let is' = c.line-item.is in
    let is = rw kept at is' in
    let found = c.cramfs_line-found in
    record {
      all = kept;
      block = one_counted ls known (cramfs_is (λ x. x.last_block) ls) i (told c.loop-line.block)
          (told c.with-block.result) found.result.last_block _ l before.block below is
          (λ s h. ap (λ x. x.last_block) (found.ensures s h.0 h.1)) c.with-block.ensures;
      table = one_counted ls known (cramfs_is (λ x. x.shared_table) ls) i (told c.loop-line.table)
          (told c.with-table.result) found.result.shared_table _ l before.table below is
          (λ s h. ap (λ x. x.shared_table) (found.ensures s h.0 h.1)) c.with-table.ensures;
      device = one_counted ls known (cramfs_is (λ x. x.device) ls) i (told c.loop-line.device)
          (told c.with-device.result) found.result.device _ l before.device below is
          (λ s h. ap (λ x. x.device) (found.ensures s h.0 h.1)) c.with-device.ensures;
      padded = one_counted ls known (cramfs_is (λ x. x.name_padded) ls) i (told c.loop-line.padded)
          (told c.with-padded.result) found.result.name_padded _ l before.padded below is
          (λ s h. ap (λ x. x.name_padded) (found.ensures s h.0 h.1)) c.with-padded.ensures;
      link = one_counted ls known (cramfs_is (λ x. x.link_cut) ls) i (told c.loop-line.link)
          (told c.with-link.result) found.result.link_cut _ l before.link below is
          (λ s h. ap (λ x. x.link_cut) (found.ensures s h.0 h.1)) c.with-link.ensures;
      mode = one_counted ls known (cramfs_is (λ x. x.root_mode) ls) i (told c.loop-line.mode)
          (told c.with-mode.result) found.result.root_mode _ l before.mode below is
          (λ s h. ap (λ x. x.root_mode) (found.ensures s h.0 h.1)) c.with-mode.ensures;
    }

pub returns : goal.returns
returns c = λ sizes h f.
    let ls = c.args.manifest.now.lines in
    let n = c.loop-line.line-index in
    let known : List ℕ → Type 0 = λ s. IsOf ls s c.args.files.now × AreFirst ls s c.args.first.now in
    let at = c.loop-line in
    let e = c.loop-line-test.false in
    let k = ap (λ (v : List Line). length v) at.invariant.all in
    let end : length ls ≤ n = omega (arith, e, k) in
    let none = c.none-none.ensures in
    eleven
    (c.of_image-empty.ensures ∙ ap (λ (b : Bool). of_image b 0) (c.is_empty.ensures
    ∙ ap (λ (v : List Line). length v == 0) at.invariant.all))
    (all_counted ls known (cramfs_is (λ x. x.last_block) ls) n (told at.block) at.invariant.block end sizes (h, f))
    (all_counted ls known (cramfs_is (λ x. x.shared_table) ls) n (told at.table) at.invariant.table end sizes (h, f))
    none none none
    (all_counted ls known (cramfs_is (λ x. x.device) ls) n (told at.device) at.invariant.device end sizes (h, f))
    (all_counted ls known (cramfs_is (λ x. x.name_padded) ls) n (told at.padded) at.invariant.padded end sizes (h, f))
    (all_counted ls known (cramfs_is (λ x. x.link_cut) ls) n (told at.link) at.invariant.link end sizes (h, f))
    (all_counted ls known (cramfs_is (λ x. x.root_mode) ls) n (told at.mode) at.invariant.mode end sizes (h, f))
    none
