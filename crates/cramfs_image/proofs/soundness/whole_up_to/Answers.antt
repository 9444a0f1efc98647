use Rattle.std.proofs.Common.{ℕ, sym, subst, arith}
use Rattle.record_forest.specs.Known.{AreKnown}
use Rattle.record_forest.proofs.Ranges.{part_known, more_known, joined, one_more}
use Rattle.cramfs_image.specs.Phases.{IsWhole}
use Rattle.cramfs_image.proofs.soundness.whole_up_to.Goals as goal
use Rattle.cramfs_image.proofs.soundness.whole_up_to.Goals.{else-loop-next-test}
use Rattle.cramfs_image.proofs.soundness.whole_up_to.Goals.{then-loop-next-test+in_default+then-not-is_whole}

pub loop-next-preserved-in-Some : goal.loop-next-preserved-in-Some
loop-next-preserved-in-Some c = record {
  start = (let e = c.min-start.ensures in let i = c.loop-next.invariant.start in omega arith);
  next = (let i = c.loop-next.invariant.next in let h = c.in-Some.ensures.has.1 in omega arith);
  whole = λ n a b. joined (IsWhole c.args.b.now.order c.args.b.now.bytes.now) c.loop-next.known c.loop-next.start
      c.loop-next.next c.in-Some.range.start c.in-Some.range.end c.loop-next.invariant.known c.in-Some.ensures.range
      c.in-Some.ensures.has.0 c.in-Some.ensures.has.1 c.loop-next.invariant.whole n
      (let e = c.min-start.ensures in omega arith) b;
  known = part_known (IsWhole c.args.b.now.order c.args.b.now.bytes.now) c.loop-next.known c.take.new.self
      c.loop-next.invariant.known c.in-Some.ensures.rest;
}

pub loop-next-preserved : goal.loop-next-preserved
loop-next-preserved c = record {
  start = c.loop-next.invariant.start;
  next = (let i = c.loop-next.invariant.next in omega arith);
  whole = one_more (IsWhole c.args.b.now.order c.args.b.now.bytes.now) c.loop-next.start c.loop-next.next
      c.loop-next.invariant.whole (c.is_whole.ensures.0 c.if-not-is_whole.false);
  known = part_known (IsWhole c.args.b.now.order c.args.b.now.bytes.now) c.loop-next.known c.take.new.self
      c.loop-next.invariant.known c.in_default.ensures.rest;
}

pub returns-then-saturating_add-next-clause-known : goal.returns-then-saturating_add-next-clause-known
returns-then-saturating_add-next-clause-known c =
    let P : ℕ → Type 0 = IsWhole c.args.b.now.order c.args.b.now.bytes.now in
    let left : AreKnown P c.loop-next-test.known = elim c.loop-next-test.branch [
      | else-loop-next-test w ↦ subst (AreKnown P) (sym w.known-is) c.loop-next.invariant.known
      | then-loop-next-test+in_default+then-not-is_whole w ↦ subst (AreKnown P) (sym w.known-is)
          (part_known P c.loop-next.known w.take.new.self c.loop-next.invariant.known w.in_default.ensures.rest)
    ] in
    more_known P c.loop-next-test.known c.note.new.self c.loop-next.start c.loop-next.next left c.note.ensures
    c.loop-next.invariant.whole

pub returns-else-saturating_add-next-clause-known : goal.returns-else-saturating_add-next-clause-known
returns-else-saturating_add-next-clause-known c =
    let P : ℕ → Type 0 = IsWhole c.args.b.now.order c.args.b.now.bytes.now in
    elim c.loop-next-test.branch [
      | else-loop-next-test w ↦ subst (AreKnown P) (sym w.known-is) c.loop-next.invariant.known
      | then-loop-next-test+in_default+then-not-is_whole w ↦ subst (AreKnown P) (sym w.known-is)
          (part_known P c.loop-next.known w.take.new.self c.loop-next.invariant.known w.in_default.ensures.rest)
    ]
