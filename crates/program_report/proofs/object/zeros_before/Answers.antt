use Rattle.std.proofs.Common.{◌≡◌, ◌+◌, ◌-◌, ℕ, suc, ap, arith}
use Rattle.program_report.specs.Lines.{zeros_before}
use Rattle.program_report.proofs.Objects.{zeros_front, zeros_full, zeros_on, zeros_stop}
use Rattle.program_report.proofs.object.zeros_before.Goals as goal

-- nothing more is counted
ended : (count rest all : ℕ) → rest ≡ 0 → count + rest ≡ all → count ≡ all
ended count rest all e h = omega arith

pub returns-then-b-at-ne0 : goal.returns-then-b-at-ne0
returns-then-b-at-ne0 c =
    let b = c.args.b.now in
    ended c.loop-count.count (zeros_before b c.loop-count.at (4095 - c.loop-count.count))
    (zeros_before b c.args.at 4095)
    (zeros_stop b c.loop-count.at (4095 - c.loop-count.count) c.if-at-gt0.true c.if-b-at-ne0.true)
    c.loop-count.invariant.same

pub returns-else-at-gt0 : goal.returns-else-at-gt0
returns-else-at-gt0 c =
    let b = c.args.b.now in
    let f = c.if-at-gt0.false in
    ended c.loop-count.count (zeros_before b c.loop-count.at (4095 - c.loop-count.count))
    (zeros_before b c.args.at 4095)
    (zeros_front b c.loop-count.at (4095 - c.loop-count.count) (omega arith)) c.loop-count.invariant.same

pub returns-after-loop-count : goal.returns-after-loop-count
returns-after-loop-count c =
    let b = c.args.b.now in
    let f = c.loop-count-test.false in
    ended c.loop-count.count (zeros_before b c.loop-count.at (4095 - c.loop-count.count))
    (zeros_before b c.args.at 4095)
    (zeros_full b c.loop-count.at (4095 - c.loop-count.count) (omega arith)) c.loop-count.invariant.same

pub loop-count-preserved : goal.loop-count-preserved
loop-count-preserved c =
    let b = c.args.b.now in
    let at = c.loop-count.at in
    let count = c.loop-count.count in
    let i = c.loop-count.invariant in
    let t = c.loop-count-test.true in
    let p = c.if-at-gt0.true in
    let s = i.same in
    let w = i.within in
    let on : zeros_before b at (4095 - count) ≡ suc (zeros_before b (at - 1) ((4095 - count) - 1)) =
    zeros_on b at (4095 - count) p (omega arith) c.if-b-at-ne0.false in
    let k : (4095 - count) - 1 ≡ 4095 - (count + 1) = omega arith in
    let same : zeros_before b (at - 1) ((4095 - count) - 1) ≡ zeros_before b (at - 1) (4095 - (count + 1)) =
    ap (zeros_before b (at - 1)) k in
    record { count = omega arith; within = omega arith; same = omega arith }
