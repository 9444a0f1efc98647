use Rattle.std.proofs.Common.{sym, ap, ◌∙◌, arith, map, drop}
use Rattle.plan_rows.specs.Rows.{inode_view, row_view}
use Rattle.build_commands.specs.Planned.{first_with}
use Rattle.build_commands.proofs.Noted.{all_firsts, are_first, before_firsts, no_files_from, none_first, row_step}
use Rattle.build_commands.proofs.kept.first_files.Goals as goal

pub loop-row-init : goal.loop-row-init
loop-row-init c = λ k.
    before_firsts c.new-first.result (map (λ r. inode_view r.inode) c.as_slice-all.result.now) k
    c.new-first.ensures.empty

pub loop-row-preserved : goal.loop-row-preserved
loop-row-preserved c =
    row_step c.loop-row.first c.note.new.first c.as_slice-all.result.now c.loop-row.row-index _ c.loop-row-test.true
    c.in_ok-note.ensures c.loop-row.invariant

pub returns-then-not-has_same : goal.returns-then-not-has_same
returns-then-not-has_same c = λ sizes h.
    none_first c.args.manifest.now.lines sizes c.new-first.result
    (sym c.has_same.ensures ∙ c.if-not-has_same.true) c.new-first.ensures.empty

pub returns : goal.returns
returns c = λ sizes h.
    let all = c.as_slice-all.result.now in
    let i = c.loop-row.row-index in
    let e = c.loop-row-test.false in
    are_first c.args.manifest.now.lines sizes c.loop-row.first all
    (sym c.has_same.ensures ∙ c.if-not-has_same.false)
    (ap (map row_view) c.as_slice-all.ensures.value ∙ c.in_ok-listed.ensures sizes h)
    (λ k. all_firsts c.loop-row.first (first_with k (map (λ r. inode_view r.inode) all))
    (map (λ r. inode_view r.inode) (drop i all)) k (no_files_from all i (omega (arith, e))) (c.loop-row.invariant k))
