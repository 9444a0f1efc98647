use Rattle.std.proofs.Common.{ap, sym, subst, map, reverse, take, ◌∙◌}
use Rattle.std.proofs.lemmas.List.{take_all}
use Rattle.std.proofs.lemmas.Result.{IfOk-weaker}
use Rattle.manifest_tree.specs.Tree.{file_at}
use Rattle.plan_rows.specs.Entries.{entries_by}
use Rattle.plan_rows.proofs.Knowing.{latest_at}
use Rattle.plan_rows.specs.Keyed.{put_file}
use Rattle.plan_rows.specs.Rows.{row_view}
use Rattle.plan_rows.proofs.Ordered.{by_key}
use Rattle.plan_rows.proofs.Steps.{IsStep, step_at, step_puts, rows_of, values_are}
use Rattle.plan_rows.proofs.order.rows.Goals as goal

pub loop-line-preserved : goal.loop-line-preserved
loop-line-preserved c =
    let all = c.lines-all.result.now in
    let m = c.args.m.now in
    let i = c.loop-line.line-index in
    let l = c.line-item.result in
    let below = c.loop-line-test.true in
    let is = c.line-item.is in
    let kept = c.loop-line.invariant.all in
    record {
      all = kept;
      listed = λ sizes h.
          let step = subst (λ ls. IsStep m.lines sizes l (reverse (take i ls))) (sym kept)
          (step_at m sizes i _ l c.lines-all.ensures.of_text (rw kept at below) (rw kept at is)) in
          c.in_ok-put_line.ensures sizes h
          ∙ ap (put_file l (file_at m.lines sizes l.path)) (c.loop-line.invariant.listed sizes h)
          ∙ step_puts m.lines sizes l (reverse (take i all)) step
          ∙ ap (λ ls. map by_key (entries_by m.lines sizes ls)) (sym (latest_at all i _ l below is));
    }

pub returns : goal.returns
returns c = λ sizes h.
    let m = c.args.m.now in
    let es = c.loop-line.keyed.entries in
    let whole =
    take_all c.loop-line.line-index c.lines-all.result.now c.loop-line-test.false ∙ c.loop-line.invariant.all in
    let known =
    c.loop-line.invariant.listed sizes h ∙ ap (λ ls. map by_key (entries_by m.lines sizes (reverse ls))) whole in
    IfOk-weaker c.in_order.result _ _
    (λ v e. ap (map row_view) e ∙ values_are es ∙ ap (map (λ k. k.row)) known
    ∙ rows_of m sizes c.lines-all.ensures.of_text) c.in_order.ensures
