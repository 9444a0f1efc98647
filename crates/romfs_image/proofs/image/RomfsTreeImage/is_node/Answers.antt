use Rattle.std.proofs.Common.{arith, true, false, sym, ap, ◌∙◌, lit<}
use Rattle.rom_tree.specs.Dots.{is_dots}
use Rattle.rom_tree.proofs.Numbers.{among_decides}
use Rattle.romfs_image.proofs.Walk.{step_at, walk_zero, room, room_more, walk_dot, walk_found, walk_entry, is_root}
use Rattle.romfs_image.proofs.Walk.{walk_start, none_left}
use Rattle.romfs_image.proofs.image.RomfsTreeImage.is_node.Goals as goal

pub returns-then-n-self : goal.returns-then-n-self
returns-then-n-self c = among_decides _ c.args.n.0 true
    (is_root c.args.self.now.accessible.bytes.now c.args.self.now.accessible.root c.args.self.now.references c.args.n.0
    c.args.self.now.sound c.if-n-self.true)

pub loop-at-init : goal.loop-at-init
loop-at-init c = walk_start c.args.self.now.accessible.bytes.now c.args.self.now.accessible.root
    c.args.self.now.references c.args.n.0 c.list_start.result c.new-stack.result.items c.push.new.self.items
    c.args.self.now.sound c.if-n-self.false c.new-stack.ensures c.list_start.ensures c.push.ensures.items

pub loop-at-smaller-then-at-eq0 : goal.loop-at-smaller-then-at-eq0
loop-at-smaller-then-at-eq0 c =
    (walk_zero c.pop.new.self.items c.in-Some.at c.loop-at.invariant c.in-Some.ensures.items c.if-at-eq0.true).1

pub loop-at-preserved-then-at-eq0 : goal.loop-at-preserved-then-at-eq0
loop-at-preserved-then-at-eq0 c =
    (walk_zero c.pop.new.self.items c.in-Some.at c.loop-at.invariant c.in-Some.ensures.items c.if-at-eq0.true).0

pub next_offset-requires : goal.next_offset-requires
next_offset-requires c = let h = (step_at c.pop.new.self.items c.in-Some.at c.loop-at.invariant c.in-Some.ensures.items
    c.if-at-eq0.false).good.sound.header in omega arith

pub push-requires-in-Some : goal.push-requires-in-Some
push-requires-in-Some c = (lit< tt, room c.pop.new.self.items c.in-Some.at c.loop-at.invariant c.in-Some.ensures.items)

pub name_at-requires : goal.name_at-requires
name_at-requires c =
    (step_at c.pop.new.self.items c.in-Some.at c.loop-at.invariant c.in-Some.ensures.items c.if-at-eq0.false).good.sound

pub loop-at-smaller-then-is_dots : goal.loop-at-smaller-then-is_dots
loop-at-smaller-then-is_dots c = (walk_dot c.pop.new.self.items c.in-Some.at c.loop-at.invariant c.in-Some.ensures.items
    c.next_offset.result c.push-in-Some.new.self.items c.if-at-eq0.false
    (ap is_dots (sym c.name_at.ensures) ∙ sym c.is_dots.ensures
    ∙ c.if-is_dots.true) c.next_offset.ensures c.push-in-Some.ensures.items).1

pub loop-at-preserved-then-is_dots : goal.loop-at-preserved-then-is_dots
loop-at-preserved-then-is_dots c = (walk_dot c.pop.new.self.items c.in-Some.at c.loop-at.invariant
    c.in-Some.ensures.items c.next_offset.result c.push-in-Some.new.self.items c.if-at-eq0.false
    (ap is_dots (sym c.name_at.ensures) ∙ sym c.is_dots.ensures
    ∙ c.if-is_dots.true) c.next_offset.ensures c.push-in-Some.ensures.items).0

pub led_at-requires : goal.led_at-requires
led_at-requires c = (step_at c.pop.new.self.items c.in-Some.at c.loop-at.invariant c.in-Some.ensures.items
    c.if-at-eq0.false).good.linked (ap is_dots (sym c.name_at.ensures) ∙ sym c.is_dots.ensures ∙ c.if-is_dots.false)

pub returns-then-led_at-n : goal.returns-then-led_at-n
returns-then-led_at-n c = among_decides _ c.args.n.0 true
    (sym (walk_found c.pop.new.self.items c.in-Some.at c.loop-at.invariant c.in-Some.ensures.items c.if-at-eq0.false
    (ap is_dots (sym c.name_at.ensures) ∙ sym c.is_dots.ensures ∙ c.if-is_dots.false)
    (sym c.led_at.ensures ∙ c.if-led_at-n.true)))

pub list_start-requires-in-Some : goal.list_start-requires-in-Some
list_start-requires-in-Some c =
    (step_at c.pop.new.self.items c.in-Some.at c.loop-at.invariant c.in-Some.ensures.items c.if-at-eq0.false).good.sound

pub push-requires-in-Some-2 : goal.push-requires-in-Some-2
push-requires-in-Some-2 c = (
  lit< tt,
  room_more c.pop.new.self.items c.in-Some.at c.loop-at.invariant c.in-Some.ensures.items c.next_offset.result
      c.push-in-Some.new.self.items c.if-at-eq0.false
      (ap is_dots (sym c.name_at.ensures) ∙ sym c.is_dots.ensures ∙ c.if-is_dots.false) c.push-in-Some.ensures.items,
)

pub loop-at-smaller : goal.loop-at-smaller
loop-at-smaller c = (walk_entry c.pop.new.self.items c.in-Some.at c.loop-at.invariant c.in-Some.ensures.items
    c.next_offset.result c.list_start-in-Some.result c.push-in-Some.new.self.items c.push-in-Some-2.new.self.items
    c.if-at-eq0.false (ap is_dots (sym c.name_at.ensures) ∙ sym c.is_dots.ensures ∙ c.if-is_dots.false)
    (λ e. c.if-led_at-n.false (c.led_at.ensures
    ∙ e)) c.next_offset.ensures c.push-in-Some.ensures.items c.list_start-in-Some.ensures
    c.push-in-Some-2.ensures.items).1

pub loop-at-preserved : goal.loop-at-preserved
loop-at-preserved c = (walk_entry c.pop.new.self.items c.in-Some.at c.loop-at.invariant c.in-Some.ensures.items
    c.next_offset.result c.list_start-in-Some.result c.push-in-Some.new.self.items c.push-in-Some-2.new.self.items
    c.if-at-eq0.false (ap is_dots (sym c.name_at.ensures) ∙ sym c.is_dots.ensures ∙ c.if-is_dots.false)
    (λ e. c.if-led_at-n.false (c.led_at.ensures
    ∙ e)) c.next_offset.ensures c.push-in-Some.ensures.items c.list_start-in-Some.ensures
    c.push-in-Some-2.ensures.items).0

pub returns : goal.returns
returns c = among_decides _ c.args.n.0 false
    (none_left c.args.self.now.accessible.bytes.now c.args.self.now.references c.args.n.0 c.loop-at.stack.items
    c.in_default.ensures.variant.1 ∙ c.loop-at.invariant.same)
