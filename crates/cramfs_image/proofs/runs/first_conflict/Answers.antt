use Rattle.std.proofs.Common.{◌∙◌, sym, inl, inr, arith}
use Rattle.std.proofs.lemmas.Bool.{false≢true}
use Rattle.cramfs_image.proofs.Looking.{look_more, look_found, look_end}
use Rattle.cramfs_image.proofs.runs.first_conflict.Goals as goal
use Rattle.cramfs_image.proofs.runs.first_conflict.Goals.{then-end, else-end}

pub returns-then-conflict : goal.returns-then-conflict
returns-then-conflict c = look_found c.args.spans.now c.spans.x-index c.spans.furthest c.requires c.spans-test.true
    c.spans.invariant (c.conflict.ensures.0 c.if-conflict.true)

pub spans-preserved : goal.spans-preserved
spans-preserved c = look_more c.args.spans.now c.spans.x-index c.spans.furthest c.if-end.furthest c.requires
    c.spans-test.true c.spans.invariant
    (λ h. false≢true (sym c.if-conflict.false ∙ c.conflict.ensures.1 h))
    (elim c.if-end.branch [
      | then-end w ↦ inl (w.furthest-is, omega arith)
      | else-end w ↦ inr
          (w.furthest-is, omega arith)
    ])

pub returns : goal.returns
returns c = look_end c.args.spans.now c.spans.x-index c.spans.furthest (omega arith) c.spans.invariant
