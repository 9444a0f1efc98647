use Rattle.std.proofs.Common.{arith, refl, ◌-◌, ◌<◌, ◌^◌, sym, ap, subst, ◌∙◌}
use Rattle.rom_tree.specs.Dots.{is_dots}
use Rattle.romfs_format.specs.Made.{begins}
use Rattle.romfs_format.proofs.Chain.{step_of}
use Rattle.romfs_format.proofs.Trees.{named, directory_known, IsList}
use Rattle.romfs_image.proofs.Calls.{offset_small, entry_here, no_entry, begins_start, begins_there, list_cursor}
use Rattle.romfs_image.proofs.Calls.{cursor_low, skipped, shrinks}
use Rattle.romfs_image.proofs.image.RomfsTreeImage.entry.Goals as goal
use Rattle.romfs_image.proofs.image.RomfsTreeImage.entry.Goals.{then-c-eq0, else-c-eq0}

pub list_start-at-requires : goal.list_start-at-requires
list_start-at-requires c = (directory_known c.args.self.now.sound c.args.d.0 c.requires.directory).0.sound

pub overflow_sub-at : goal.overflow_sub-at
overflow_sub-at c = cursor_low c.args.self.now.accessible.bytes.now c.args.self.now.accessible.root
    c.args.self.now.references c.args.d.0 c.args.c.0 c.if-c-eq0.false c.requires.cursor

pub overflow_cast-at : goal.overflow_cast-at
overflow_cast-at c =
    let b = c.args.self.now.accessible.bytes.now in
    let r = c.args.self.now.accessible.root in
    let k = c.args.self.now.references in
    let kd = directory_known c.args.self.now.sound c.args.d.0 c.requires.directory in
    let l : IsList b r k (begins b r c.args.d.0) = kd.0.list kd.1 in
    let s : c.args.c.0 - 4294967296 < 2 ^ 32 =
    offset_small b r k (c.args.c.0 - 4294967296)
    (list_cursor b r k c.args.d.0 c.args.c.0 _ c.if-c-eq0.false refl l c.requires.cursor)
    c.args.self.now.sound.small in
    omega arith

pub loop-at-init : goal.loop-at-init
loop-at-init c =
    let b = c.args.self.now.accessible.bytes.now in
    let r = c.args.self.now.accessible.root in
    let k = c.args.self.now.references in
    let kd = directory_known c.args.self.now.sound c.args.d.0 c.requires.directory in
    let l : IsList b r k (begins b r c.args.d.0) = kd.0.list kd.1 in
    elim c.if-c-eq0.branch [
      | then-c-eq0 w ↦ record {
        list = subst (IsList b r k) (sym (w.at-is ∙ w.list_start-at.ensures)) l;
        place = begins_start b r k c.args.d.0 c.args.c.0 c.if-c-eq0.at w.if-c-eq0.true
            (w.at-is ∙ w.list_start-at.ensures) l;
      }
      | else-c-eq0 w ↦ record {
        list = list_cursor b r k c.args.d.0 c.args.c.0 c.if-c-eq0.at w.if-c-eq0.false w.at-is l c.requires.cursor;
        place = begins_there b r k c.args.d.0 c.args.c.0 c.if-c-eq0.at w.if-c-eq0.false w.at-is;
      }
    ]

pub name_at-name-requires : goal.name_at-name-requires
name_at-name-requires c = (step_of c.args.self.now.accessible.bytes.now c.args.self.now.accessible.root
    c.args.self.now.references c.loop-at.at c.loop-at.invariant.list c.loop-at-test.true).good.sound

pub next_offset-next-requires : goal.next_offset-next-requires
next_offset-next-requires c = let h =
    (step_of c.args.self.now.accessible.bytes.now c.args.self.now.accessible.root c.args.self.now.references
    c.loop-at.at c.loop-at.invariant.list c.loop-at-test.true).good.sound.header in omega arith

pub loop-at-smaller : goal.loop-at-smaller
loop-at-smaller c =
    let b = c.args.self.now.accessible.bytes.now in
    let r = c.args.self.now.accessible.root in
    let k = c.args.self.now.references in
    let kd = directory_known c.args.self.now.sound c.args.d.0 c.requires.directory in
    let l : IsList b r k (begins b r c.args.d.0) = kd.0.list kd.1 in
    let lq = c.loop-at.invariant.list in
    let st = step_of b r k c.loop-at.at lq c.loop-at-test.true in
    shrinks b r k c.loop-at.at c.next_offset-next.result st c.next_offset-next.ensures

pub loop-at-preserved : goal.loop-at-preserved
loop-at-preserved c =
    let b = c.args.self.now.accessible.bytes.now in
    let r = c.args.self.now.accessible.root in
    let k = c.args.self.now.references in
    let kd = directory_known c.args.self.now.sound c.args.d.0 c.requires.directory in
    let l : IsList b r k (begins b r c.args.d.0) = kd.0.list kd.1 in
    let lq = c.loop-at.invariant.list in
    let st = step_of b r k c.loop-at.at lq c.loop-at-test.true in
    record {
      list = subst (IsList b r k) (sym c.next_offset-next.ensures) st.next;
      place = λ i e. skipped b r k c.args.d.0 i c.loop-at.at c.next_offset-next.result l lq st
          (ap is_dots (sym c.name_at-name.ensures) ∙ sym c.is_dots.ensures
          ∙ c.if-is_dots.true) c.next_offset-next.ensures (c.loop-at.invariant.place i e);
    }

pub led_at-requires : goal.led_at-requires
led_at-requires c =
    let b = c.args.self.now.accessible.bytes.now in
    let r = c.args.self.now.accessible.root in
    let k = c.args.self.now.references in
    let kd = directory_known c.args.self.now.sound c.args.d.0 c.requires.directory in
    let l : IsList b r k (begins b r c.args.d.0) = kd.0.list kd.1 in
    let lq = c.loop-at.invariant.list in
    let st = step_of b r k c.loop-at.at lq c.loop-at-test.true in
    st.good.linked (ap is_dots (sym c.name_at-name.ensures) ∙ sym c.is_dots.ensures ∙ c.if-is_dots.false)

pub returns-in-loop-at : goal.returns-in-loop-at
returns-in-loop-at c =
    let b = c.args.self.now.accessible.bytes.now in
    let r = c.args.self.now.accessible.root in
    let k = c.args.self.now.references in
    let kd = directory_known c.args.self.now.sound c.args.d.0 c.requires.directory in
    let l : IsList b r k (begins b r c.args.d.0) = kd.0.list kd.1 in
    let lq = c.loop-at.invariant.list in
    let st = step_of b r k c.loop-at.at lq c.loop-at-test.true in
    λ x i e h. entry_here c.args.self.now.all.now b r k c.loop-at.at c.args.self.now.sound c.args.self.now.within
    c.args.d.0 i _ _ _ x c.args.self.now.front
    (named c.args.self.now.sound c.args.d.0 x e).0 kd.1 l st c.loop-at-test.true lq (c.loop-at.invariant.place i h)
    (ap is_dots (sym c.name_at-name.ensures) ∙ sym c.is_dots.ensures
    ∙ c.if-is_dots.false) c.name_at-name.ensures c.led_at.ensures (c.from.ensures ∙ c.next_offset-next.ensures)

pub returns : goal.returns
returns c =
    let b = c.args.self.now.accessible.bytes.now in
    let r = c.args.self.now.accessible.root in
    let k = c.args.self.now.references in
    let kd = directory_known c.args.self.now.sound c.args.d.0 c.requires.directory in
    let l : IsList b r k (begins b r c.args.d.0) = kd.0.list kd.1 in
    λ x i e h. no_entry b r k c.args.d.0 i c.loop-at.at x
    (named c.args.self.now.sound c.args.d.0 x e).0 kd.1 l c.loop-at.invariant.list c.loop-at-test.false
    (c.loop-at.invariant.place i h)
