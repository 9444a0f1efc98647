use Rattle.std.proofs.Common.{ℕ, ◌==◌, ◌≤◌, Bool, List, length, ap, ◌∙◌, arith}
use Rattle.linux_misreads.specs.Differences.{is_root_missed}
use Rattle.manifest.specs.declared.line.Line.{Line}
use Rattle.plan_rows.specs.Files.{IsOf}
use Rattle.build_commands.specs.Foreseen.{romfs_is, of_image, told}
use Rattle.build_commands.proofs.Told.{all_counted, eleven, one_counted}
use Rattle.build_commands.proofs.warnings.romfs_warnings.Goals as goal

pub loop-line-preserved : goal.loop-line-preserved
loop-line-preserved c =
    let ls = c.args.manifest.now.lines in
    let i = c.loop-line.line-index in
    let l = c.line-item.result in
    let known : List ℕ → Type 0 = λ s. IsOf ls s c.args.files.now in
    let kept = c.loop-line.invariant.all in
    let before = c.loop-line.invariant in
    let below' = c.loop-line-test.true in
    let below = rw kept at below' in
    let is' = c.line-item.is in
    let is = rw kept at is' in
    let found = c.romfs_line-found in
    record {
      all = kept;
      cut = one_counted ls known (romfs_is (λ x. x.name_cut) ls) i (told c.loop-line.cut)
          (told c.with-cut.result) found.result.name_cut _ l before.cut below is
          (λ s h. ap (λ x. x.name_cut) (found.ensures s h)) c.with-cut.ensures;
      long = one_counted ls known (romfs_is (λ x. x.name_too_long) ls) i (told c.loop-line.long)
          (told c.with-long.result) found.result.name_too_long _ l before.long below is
          (λ s h. ap (λ x. x.name_too_long) (found.ensures s h)) c.with-long.ensures;
      device = one_counted ls known (romfs_is (λ x. x.device) ls) i (told c.loop-line.device)
          (told c.with-device.result) found.result.device _ l before.device below is
          (λ s h. ap (λ x. x.device) (found.ensures s h)) c.with-device.ensures;
      link = one_counted ls known (romfs_is (λ x. x.link_cut) ls) i (told c.loop-line.link)
          (told c.with-link.result) found.result.link_cut _ l before.link below is
          (λ s h. ap (λ x. x.link_cut) (found.ensures s h)) c.with-link.ensures;
      place = one_counted ls known (romfs_is (λ x. x.other_place) ls) i (told c.loop-line.place)
          (told c.with-place.result) found.result.other_place _ l before.place below is
          (λ s h. ap (λ x. x.other_place) (found.ensures s h)) c.with-place.ensures;
    }

pub returns : goal.returns
returns c = λ sizes h.
    let ls = c.args.manifest.now.lines in
    let n = c.loop-line.line-index in
    let known : List ℕ → Type 0 = λ s. IsOf ls s c.args.files.now in
    let at = c.loop-line in
    let e = c.loop-line-test.false in
    let k = ap (λ (v : List Line). length v) at.invariant.all in
    let end : length ls ≤ n = omega (arith, e, k) in
    let none = c.none-none.ensures in
    eleven
    (c.of_image-empty.ensures ∙ ap (λ (b : Bool). of_image b 0) (c.is_empty.ensures
    ∙ ap (λ (v : List Line). length v == 0) at.invariant.all))
    none none
    (all_counted ls known (romfs_is (λ x. x.name_cut) ls) n (told at.cut) at.invariant.cut end sizes h)
    (all_counted ls known (romfs_is (λ x. x.name_too_long) ls) n (told at.long) at.invariant.long end sizes h)
    (c.of_image-volume.ensures ∙ (ap (λ (b : Bool). of_image b c.volume_line.result)
    (c.is_root_missed.ensures ∙ ap is_root_missed c.volume.ensures)
    ∙ ap (of_image (is_root_missed c.args.manifest.now.volume)) c.volume_line.ensures))
    (all_counted ls known (romfs_is (λ x. x.device) ls) n (told at.device) at.invariant.device end sizes h)
    none
    (all_counted ls known (romfs_is (λ x. x.link_cut) ls) n (told at.link) at.invariant.link end sizes h)
    none
    (all_counted ls known (romfs_is (λ x. x.other_place) ls) n (told at.place) at.invariant.place end sizes h)
