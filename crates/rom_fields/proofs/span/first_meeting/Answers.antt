use Rattle.std.proofs.Common.{◌∙◌, sym, inl, inr, arith}
use Rattle.std.proofs.lemmas.Bool.{false≢true}
use Rattle.rom_fields.proofs.Look.{look_more, look_found, look_end}
use Rattle.rom_fields.proofs.span.first_meeting.Goals as goal
use Rattle.rom_fields.proofs.span.first_meeting.Goals.{then-end, else-end}

pub returns-then-overlap : goal.returns-then-overlap
returns-then-overlap c = look_found c.args.spans.now c.spans.x-index c.spans.furthest c.requires c.spans-test.true
    c.spans.invariant (c.overlap.ensures.0 c.if-overlap.true)

pub spans-preserved : goal.spans-preserved
spans-preserved c = look_more c.args.spans.now c.spans.x-index c.spans.furthest c.if-end.furthest c.requires
    c.spans-test.true c.spans.invariant
    (λ h. false≢true (sym c.if-overlap.false ∙ c.overlap.ensures.1 h))
    (elim c.if-end.branch [
      | then-end w ↦ inl (w.furthest-is, omega arith)
      | else-end w ↦ inr
          (w.furthest-is, omega arith)
    ])

pub returns : goal.returns
returns c = look_end c.args.spans.now c.spans.x-index c.spans.furthest (omega arith) c.spans.invariant
