use Rattle.std.proofs.Common.{arith, refl, sym, ap, subst, ◌∙◌, inl, inr}
use Rattle.rom_tree.specs.Dots.{is_dots}
use Rattle.romfs_format.specs.Made.{begins, list_at}
use Rattle.romfs_format.proofs.Chain.{step_of}
use Rattle.romfs_format.proofs.Trees.{named, directory_known, IsList}
use Rattle.romfs_image.proofs.Calls.{shrinks, passed, found_here, found_none}
use Rattle.romfs_image.proofs.image.RomfsTreeImage.lookup.Goals as goal
use Rattle.romfs_image.proofs.image.RomfsTreeImage.lookup.Goals.{else-not-is_dots-via-then-not-is_dots+else-eq}
use Rattle.romfs_image.proofs.image.RomfsTreeImage.lookup.Goals.{else-not-is_dots-via-else-not-is_dots}

pub list_start-at-requires : goal.list_start-at-requires
list_start-at-requires c = (directory_known c.args.self.now.sound c.args.d.0 c.requires).0.sound

pub loop-at-init : goal.loop-at-init
unfolding list_at
loop-at-init c =
    let b = c.args.self.now.accessible.bytes.now in
    let r = c.args.self.now.accessible.root in
    let k = c.args.self.now.references in
    let kd = directory_known c.args.self.now.sound c.args.d.0 c.requires in
    let l : IsList b r k (begins b r c.args.d.0) = kd.0.list kd.1 in
    record { list = subst (IsList b r k) (sym c.list_start-at.ensures) l; same = rw c.list_start-at.ensures refl }

pub name_at-found-requires : goal.name_at-found-requires
name_at-found-requires c = (step_of c.args.self.now.accessible.bytes.now c.args.self.now.accessible.root
    c.args.self.now.references c.loop-at.at c.loop-at.invariant.list c.loop-at-test.true).good.sound

pub next_offset-at-requires : goal.next_offset-at-requires
next_offset-at-requires c = let h = (step_of c.args.self.now.accessible.bytes.now c.args.self.now.accessible.root
    c.args.self.now.references c.loop-at.at c.loop-at.invariant.list c.loop-at-test.true).good.sound.header in omega
    arith

pub led_at-requires : goal.led_at-requires
led_at-requires c =
    let b = c.args.self.now.accessible.bytes.now in
    let r = c.args.self.now.accessible.root in
    let k = c.args.self.now.references in
    let kd = directory_known c.args.self.now.sound c.args.d.0 c.requires in
    let l : IsList b r k (begins b r c.args.d.0) = kd.0.list kd.1 in
    let lq = c.loop-at.invariant.list in
    let st = step_of b r k c.loop-at.at lq c.loop-at-test.true in
    st.good.linked (ap is_dots (sym c.name_at-found.ensures) ∙ sym c.is_dots.ensures ∙ c.if-not-is_dots.true)

pub returns-then-eq-clause-found : goal.returns-then-eq-clause-found
returns-then-eq-clause-found c =
    let b = c.args.self.now.accessible.bytes.now in
    let r = c.args.self.now.accessible.root in
    let k = c.args.self.now.references in
    let kd = directory_known c.args.self.now.sound c.args.d.0 c.requires in
    let l : IsList b r k (begins b r c.args.d.0) = kd.0.list kd.1 in
    let lq = c.loop-at.invariant.list in
    let st = step_of b r k c.loop-at.at lq c.loop-at-test.true in
    λ x e. found_here b r k c.loop-at.at c.args.d.0 _ c.args.name.now _ x
    (named c.args.self.now.sound c.args.d.0 x e).0 kd.1 st c.name_at-found.ensures
    (sym c.is_dots.ensures ∙ c.if-not-is_dots.true)
    (sym c.eq.ensures ∙ c.if-eq.true) c.led_at.ensures c.loop-at.invariant.same

pub loop-at-smaller : goal.loop-at-smaller
loop-at-smaller c =
    let b = c.args.self.now.accessible.bytes.now in
    let r = c.args.self.now.accessible.root in
    let k = c.args.self.now.references in
    let kd = directory_known c.args.self.now.sound c.args.d.0 c.requires in
    let l : IsList b r k (begins b r c.args.d.0) = kd.0.list kd.1 in
    let lq = c.loop-at.invariant.list in
    let st = step_of b r k c.loop-at.at lq c.loop-at-test.true in
    shrinks b r k c.loop-at.at c.next_offset-at.result st c.next_offset-at.ensures

pub loop-at-preserved : goal.loop-at-preserved
loop-at-preserved c =
    let b = c.args.self.now.accessible.bytes.now in
    let r = c.args.self.now.accessible.root in
    let k = c.args.self.now.references in
    let kd = directory_known c.args.self.now.sound c.args.d.0 c.requires in
    let l : IsList b r k (begins b r c.args.d.0) = kd.0.list kd.1 in
    let lq = c.loop-at.invariant.list in
    let st = step_of b r k c.loop-at.at lq c.loop-at-test.true in
    record {
      list = subst (IsList b r k) (sym c.next_offset-at.ensures) st.next;
      same = c.loop-at.invariant.same ∙ passed b r k c.loop-at.at c.next_offset-at.result c.args.name.now _ st
          c.next_offset-at.ensures c.name_at-found.ensures (elim c.else-not-is_dots.branch [
            | else-not-is_dots-via-then-not-is_dots+else-eq w ↦ inr (sym w.eq.ensures ∙ w.if-eq.false)
            | else-not-is_dots-via-else-not-is_dots w ↦ inl (sym c.is_dots.ensures ∙ w.if-not-is_dots.false)
          ]);
    }

pub returns-clause-found : goal.returns-clause-found
returns-clause-found c =
    let b = c.args.self.now.accessible.bytes.now in
    let r = c.args.self.now.accessible.root in
    let k = c.args.self.now.references in
    let kd = directory_known c.args.self.now.sound c.args.d.0 c.requires in
    let l : IsList b r k (begins b r c.args.d.0) = kd.0.list kd.1 in
    λ x e. found_none b r k c.loop-at.at c.args.d.0 c.args.name.now x
    (named c.args.self.now.sound c.args.d.0 x e).0 kd.1 c.loop-at.invariant.list c.loop-at-test.false
    c.loop-at.invariant.same

pub returns-then-eq-clause-stays : goal.returns-then-eq-clause-stays
returns-then-eq-clause-stays c = refl

pub returns-then-eq-clause-report : goal.returns-then-eq-clause-report
returns-then-eq-clause-report c = refl

pub returns-clause-stays : goal.returns-clause-stays
returns-clause-stays c = refl

pub returns-clause-report : goal.returns-clause-report
returns-clause-report c = refl
