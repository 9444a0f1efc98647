use Rattle.std.proofs.Common.{◌≡◌, refl, ◌∙◌, arith}
use Rattle.serve_lines.proofs.Runs.{run-begins, run-stops, run-fails, run-ends, run-breaks_at_end, run-goes_on}
use Rattle.serve_lines.proofs.Runs.{run-answers, run-quits, run-breaks, run-bounds, run-bounds_after, rose-from}
use Rattle.serve_lines.proofs.serve.serve_lines.Goals as goal

pub loop-init : goal.loop-init
loop-init g c = record {
  runs = run-begins _ c.requires _ _ _ _ c.new-line.ensures;
  same = refl;
  read = refl;
  wrote = refl;
}

pub returns-in-Ok-clause-ok : goal.returns-in-Ok-clause-ok
returns-in-Ok-clause-ok g c =
    run-ends _ c.requires _ _ _ _ _ _ (g.W.ByteWrite.output c.answer_last.new.w) _ _ _ _ c.loop.invariant.same
    c.loop.invariant.runs c.in-End.ensures.0 c.in-End.ensures.1 c.in-Ok.ensures.ok c.in-Ok.ensures.flushed

pub returns-in-Err-clause-write_fault : goal.returns-in-Err-clause-write_fault
returns-in-Err-clause-write_fault g c = λ _. (
  rose-from _ _ _ c.loop.invariant.wrote c.in-Err.ensures.count,
  run-breaks_at_end _ c.requires _ _ _ _ _ _ _ _ _ _ _ c.loop.invariant.same c.loop.invariant.runs c.in-End.ensures.0
      c.in-Err.ensures.some c.in-Err.ensures.err c.in-Err.ensures.unflushed,
)

pub returns-in-Fault-clause-read_fault : goal.returns-in-Fault-clause-read_fault
returns-in-Fault-clause-read_fault g c = λ _. (
  rose-from _ _ _ c.loop.invariant.read c.in-Fault.ensures.1,
  run-fails _ c.requires _ _ _ _ _ _ _ _ _ c.loop.invariant.runs c.in-Fault.ensures.0,
)

pub loop-preserved-then-b-ne-LINE_FEED : goal.loop-preserved-then-b-ne-LINE_FEED
loop-preserved-then-b-ne-LINE_FEED g c = record {
  runs = run-goes_on _ c.requires _ _ _ _ _ _ _ _ _ _ _ c.loop.invariant.runs c.in-Byte.ensures.0
      c.if-b-ne-LINE_FEED.true c.keep.ensures;
  same = c.loop.invariant.same;
  read = c.in-Byte.ensures.1 ∙ c.loop.invariant.read;
  wrote = c.loop.invariant.wrote;
}

pub returns-in-Err-answer_line-clause-write_fault :
    goal.returns-in-Err-answer_line-clause-write_fault
returns-in-Err-answer_line-clause-write_fault g c = λ _. (
  rose-from _ _ _ c.loop.invariant.wrote c.in-Err-answer_line.ensures.count,
  run-breaks _ c.requires _ _ _ _ _ _ _ _ _ _ _ _ c.loop.invariant.same c.loop.invariant.runs c.in-Byte.ensures.0
      c.if-b-ne-LINE_FEED.false c.in-Err-answer_line.ensures.text c.in-Err-answer_line.ensures.flushed,
)

pub returns-then-last-clause-ok : goal.returns-then-last-clause-ok
returns-then-last-clause-ok g c =
    run-quits _ c.requires _ _ _ _ _ _
    (g.W.ByteWrite.output c.answer_line.new.w) _ _ _ _ _ _ c.loop.invariant.same c.loop.invariant.runs
    c.in-Byte.ensures.0 c.if-b-ne-LINE_FEED.false
    c.in-Ok-answer_line.ensures.last c.if-last.true c.in-Ok-answer_line.ensures.text c.in-Ok-answer_line.ensures.flushed

pub loop-preserved : goal.loop-preserved
loop-preserved g c = record {
  runs = run-answers _ c.requires _ _ _ _ _ _ _ _ _ _ _ _ _ _ _ c.loop.invariant.same c.loop.invariant.runs
      c.in-Byte.ensures.0 c.if-b-ne-LINE_FEED.false
      c.in-Ok-answer_line.ensures.last c.if-last.false c.in-Ok-answer_line.ensures.text
      c.in-Ok-answer_line.ensures.flushed
      c.in-Ok-answer_line.ensures.step c.clear.ensures;
  same = c.in-Ok-answer_line.ensures.stays ∙ c.loop.invariant.same;
  read = c.in-Byte.ensures.1 ∙ c.loop.invariant.read;
  wrote = c.in-Ok-answer_line.ensures.count ∙ c.loop.invariant.wrote;
}

pub returns-clause-too_many : goal.returns-clause-too_many
returns-clause-too_many g c = λ _.
    let found = run-stops _ c.requires _ _ _ _ _ _ _ _ c.loop.invariant.runs in
    let all : c.loop.counter ≡ c.args.reads = omega arith in
    (found.0, found.1 ∙ all, found.2)

pub returns-in-Ok-clause-bounded : goal.returns-in-Ok-clause-bounded
returns-in-Ok-clause-bounded g c =
    let few = c.loop-test.true in
    run-bounds _ _ _ _ _ _ _ _ _ _ _ c.loop.invariant.runs (omega (arith, few)) c.in-End.ensures.0

pub returns-in-Err-clause-bounded : goal.returns-in-Err-clause-bounded
returns-in-Err-clause-bounded g c =
    let few = c.loop-test.true in
    run-bounds _ _ _ _ _ _ _ _ _ _ _ c.loop.invariant.runs (omega (arith, few)) c.in-End.ensures.0

pub returns-in-Err-answer_line-clause-bounded : goal.returns-in-Err-answer_line-clause-bounded
returns-in-Err-answer_line-clause-bounded g c =
    run-bounds_after _ _ _ _ _ _ _ _ _ _ _ _ c.loop.invariant.runs c.loop-test.true c.in-Byte.ensures.0

pub returns-then-last-clause-bounded : goal.returns-then-last-clause-bounded
returns-then-last-clause-bounded g c =
    run-bounds_after _ _ _ _ _ _ _ _ _ _ _ _ c.loop.invariant.runs c.loop-test.true c.in-Byte.ensures.0

pub returns-in-Fault-clause-bounded : goal.returns-in-Fault-clause-bounded
returns-in-Fault-clause-bounded g c =
    let few = c.loop-test.true in
    run-bounds _ _ _ _ _ _ _ _ _ _ _ c.loop.invariant.runs (omega (arith, few)) c.in-Fault.ensures.0
