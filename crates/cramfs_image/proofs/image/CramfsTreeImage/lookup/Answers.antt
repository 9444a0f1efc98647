use Rattle.std.proofs.Common.{arith, refl, sym, subst, ◌∙◌, ◌<◌, ◌≤◌}
use Rattle.cramfs_format.specs.Inode.{list_end}
use Rattle.cramfs_format.specs.Made.{list_at}
use Rattle.cramfs_format.proofs.Lists.{end_after}
use Rattle.cramfs_format.proofs.Chain.{step_of}
use Rattle.cramfs_format.proofs.Trees.{named, directory_known, IsList}
use Rattle.cramfs_image.proofs.Calls.{passed, found_here, found_none}
use Rattle.cramfs_image.proofs.image.CramfsTreeImage.lookup.Goals as goal

pub list_end_at-end-requires : goal.list_end_at-end-requires
list_end_at-end-requires c = (directory_known c.args.self.now.sound c.args.d.0 c.requires).0.header

pub offset_at-at-requires : goal.offset_at-at-requires
offset_at-at-requires c = (directory_known c.args.self.now.sound c.args.d.0 c.requires).0.header

pub loop-at-init : goal.loop-at-init
unfolding list_at
loop-at-init c =
    let b = c.args.self.now.accessible.bytes.now in
    let k = c.args.self.now.references in
    let kd = directory_known c.args.self.now.sound c.args.d.0 c.requires in
    let start = c.offset_at-at.ensures.start in
    record {
      list = subst (IsList c.args.self.now.accessible.order b k
          (list_end c.args.self.now.accessible.order b c.args.d.0)) (sym start) kd.0.list;
      same = rw start refl;
    }

pub returns-then-eq-clause-found : goal.returns-then-eq-clause-found
returns-then-eq-clause-found c =
    let b = c.args.self.now.accessible.bytes.now in
    let k = c.args.self.now.references in
    let kd = directory_known c.args.self.now.sound c.args.d.0 c.requires in
    let e = c.list_end_at-end.ensures in
    let l = c.loop-at-test.true in
    let inside : c.loop-at.at < list_end c.args.self.now.accessible.order b c.args.d.0 = omega arith in
    let st = step_of c.args.self.now.accessible.order b k
    (list_end c.args.self.now.accessible.order b c.args.d.0) c.loop-at.at c.loop-at.invariant.list inside in
    λ x h. found_here c.args.self.now.accessible.order b k c.loop-at.at c.args.d.0 c.args.name.now _ x
    (named c.args.self.now.sound c.args.d.0 x h).0 kd.1 st c.name_at.ensures
    (sym c.eq.ensures ∙ c.if-eq.true) c.loop-at.invariant.same

pub loop-at-smaller : goal.loop-at-smaller
loop-at-smaller c =
    let b = c.args.self.now.accessible.bytes.now in
    let k = c.args.self.now.references in
    let kd = directory_known c.args.self.now.sound c.args.d.0 c.requires in
    let e = c.list_end_at-end.ensures in
    let l = c.loop-at-test.true in
    let inside : c.loop-at.at < list_end c.args.self.now.accessible.order b c.args.d.0 = omega arith in
    let st = step_of c.args.self.now.accessible.order b k
    (list_end c.args.self.now.accessible.order b c.args.d.0) c.loop-at.at c.loop-at.invariant.list inside in
    let a = end_after c.args.self.now.accessible.order b c.loop-at.at in
    let n = c.end_at-at.ensures.end in
    omega arith

pub loop-at-preserved : goal.loop-at-preserved
loop-at-preserved c =
    let b = c.args.self.now.accessible.bytes.now in
    let k = c.args.self.now.references in
    let kd = directory_known c.args.self.now.sound c.args.d.0 c.requires in
    let e = c.list_end_at-end.ensures in
    let l = c.loop-at-test.true in
    let inside : c.loop-at.at < list_end c.args.self.now.accessible.order b c.args.d.0 = omega arith in
    let st = step_of c.args.self.now.accessible.order b k
    (list_end c.args.self.now.accessible.order b c.args.d.0) c.loop-at.at c.loop-at.invariant.list inside in
    record {
      list = subst (IsList c.args.self.now.accessible.order b k
          (list_end c.args.self.now.accessible.order b c.args.d.0)) (sym c.end_at-at.ensures.end) st.next;
      same = c.loop-at.invariant.same ∙ passed c.args.self.now.accessible.order b k
          (list_end c.args.self.now.accessible.order b c.args.d.0) c.loop-at.at c.end_at-at.result c.args.name.now _ st
          c.end_at-at.ensures.end c.name_at.ensures (sym c.eq.ensures ∙ c.if-eq.false);
    }

pub returns-clause-found : goal.returns-clause-found
returns-clause-found c =
    let b = c.args.self.now.accessible.bytes.now in
    let k = c.args.self.now.references in
    let kd = directory_known c.args.self.now.sound c.args.d.0 c.requires in
    let e = c.list_end_at-end.ensures in
    let l = c.loop-at-test.false in
    let past : list_end c.args.self.now.accessible.order b c.args.d.0 ≤ c.loop-at.at = omega arith in
    λ x h. found_none c.args.self.now.accessible.order b k c.loop-at.at c.args.d.0 c.args.name.now x
    (named c.args.self.now.sound c.args.d.0 x h).0 kd.1 past c.loop-at.invariant.same

pub returns-then-eq-clause-stays : goal.returns-then-eq-clause-stays
returns-then-eq-clause-stays c = refl

pub returns-clause-stays : goal.returns-clause-stays
returns-clause-stays c = refl

pub returns-then-eq-clause-report : goal.returns-then-eq-clause-report
returns-then-eq-clause-report c = refl

pub returns-clause-report : goal.returns-clause-report
returns-clause-report c = refl
