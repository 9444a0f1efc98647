use Rattle.std.proofs.Common.{◌≡◌, ◌+◌, length, sym, ap, subst, ◌∙◌, arith, cond, take, reverse}
use Rattle.std.specs.List.{slice_get}
use Rattle.manifest.specs.Lines.{sources_of}
use Rattle.plan_rows.specs.Files.{Knows}
use Rattle.plan_rows.proofs.Knowing.{source_at, below_at, latest_at, sources_at, knows_more, got}
use Rattle.plan_rows.proofs.files.PathTargets.new.Goals as goal
use Rattle.plan_rows.proofs.files.PathTargets.new.Goals.{then-is_file, else-is_file}

pub own_target-target-requires : goal.own_target-target-requires
own_target-target-requires c = λ f.
    let below = below_at c.lines-all.result.now c.loop-line.line-index _ c.line-item.result c.loop-line-test.true
    c.line-item.is f in
    let n = c.loop-line.invariant.source in
    let e = ap (λ ls. length (sources_of ls)) c.loop-line.invariant.all in
    omega (arith, below, n, e, c.requires)

pub overflow_add-source : goal.overflow_add-source
overflow_add-source c =
    let f = sym c.is_file.ensures ∙ c.if-is_file.true in
    let below = below_at c.lines-all.result.now c.loop-line.line-index _ c.line-item.result c.loop-line-test.true
    c.line-item.is f in
    let n = c.loop-line.invariant.source in
    let e = ap (λ ls. length (sources_of ls)) c.loop-line.invariant.all in
    omega (arith, below, n, e, c.requires)

pub loop-line-preserved : goal.loop-line-preserved
loop-line-preserved c =
    let all = c.lines-all.result.now in
    let i = c.loop-line.line-index in
    let l = c.line-item.result in
    let below = c.loop-line-test.true in
    let is = c.line-item.is in
    let kept = c.loop-line.invariant.all in
    let n : c.loop-line.source ≡ length (sources_of (take i all)) = c.loop-line.invariant.source in
    let more = sources_at all i _ l below is in
    let noted = c.in_ok-note_path.ensures in
    let known = rw (c.as_bytes.ensures, c.own_target-target.ensures) at noted in
    let at = source_at c.args.m.now i _ l c.lines-all.ensures.of_text (rw kept at below) (rw kept at is) in
    let here = ap (λ k. slice_get c.args.m.now.lines k) c.loop-line.invariant.index
    ∙ got c.args.m.now.lines i _ l (rw kept at below) (rw kept at is) in
    record {
      all = kept;
      knows = subst (λ ls. Knows c.args.m.now.lines c.args.sizes.now ls c.note_path.new.paths)
          (sym (latest_at all i _ l below is))
          (knows_more c.args.m.now.lines c.args.sizes.now
          (reverse (take i all)) l c.loop-line.source c.loop-line.index c.loop-line.paths
          (n ∙ ap (λ ls. length (sources_of (take i ls))) kept
          ∙ at) here c.loop-line.invariant.knows c.note_path.new.paths known);
      index = ap (λ k. k + 1) c.loop-line.invariant.index;
      source = elim c.if-is_file.branch [
        | then-is_file w ↦ w.source-is ∙ ap (λ k. k + 1) n
            ∙ sym (more ∙ ap (λ b. cond b (length (sources_of (take i all)) + 1) (length (sources_of (take i all))))
            (sym c.is_file.ensures ∙ w.if-is_file.true))
        | else-is_file w ↦ w.source-is ∙ n
            ∙ sym (more ∙ ap (λ b. cond b (length (sources_of (take i all)) + 1) (length (sources_of (take i all))))
            (sym c.is_file.ensures ∙ w.if-is_file.false))
      ];
    }
