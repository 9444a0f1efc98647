use Rattle.std.proofs.Common.{true, false, sym, ◌∙◌, arith, lit<}
use Rattle.rom_tree.proofs.Numbers.{among_decides}
use Rattle.cramfs_image.proofs.Walk.{step_at, walk_end, room, room_more, walk_found, walk_entry, is_root, walk_start}
use Rattle.cramfs_image.proofs.Walk.{none_left}
use Rattle.cramfs_image.proofs.image.CramfsTreeImage.is_node.Goals as goal

pub returns-then-n-eq-ROOT : goal.returns-then-n-eq-ROOT
returns-then-n-eq-ROOT c = among_decides _ c.args.n.0 true
    (is_root c.args.self.now.accessible.order c.args.self.now.accessible.bytes.now c.args.self.now.references c.args.n.0
    c.args.self.now.sound c.if-n-eq-ROOT.true)

pub loop-list-init : goal.loop-list-init
loop-list-init c = walk_start c.args.self.now.accessible.order c.args.self.now.accessible.bytes.now
    c.args.self.now.references c.args.n.0
    (c.offset_at.result, c.list_end_at.result) c.new-stack.result.items c.push.new.self.items c.args.self.now.sound
    c.if-n-eq-ROOT.false c.new-stack.ensures
    (λ t. (c.offset_at.ensures.start t, c.list_end_at.ensures t)) c.push.ensures.items

pub loop-list-smaller-then-at-list : goal.loop-list-smaller-then-at-list
loop-list-smaller-then-at-list c =
    (walk_end c.pop.new.self.items c.in-Some.list c.loop-list.invariant c.in-Some.ensures.items c.if-at-list.true).1

pub loop-list-preserved-then-at-list : goal.loop-list-preserved-then-at-list
loop-list-preserved-then-at-list c =
    (walk_end c.pop.new.self.items c.in-Some.list c.loop-list.invariant c.in-Some.ensures.items c.if-at-list.true).0

pub returns-then-at-n : goal.returns-then-at-n
returns-then-at-n c = among_decides _ c.args.n.0 true
    (sym (walk_found c.pop.new.self.items c.in-Some.list c.loop-list.invariant c.in-Some.ensures.items
    c.if-at-list.false c.if-at-n.true))

pub end_at-requires : goal.end_at-requires
end_at-requires c = (step_at c.pop.new.self.items c.in-Some.list c.loop-list.invariant c.in-Some.ensures.items
    c.if-at-list.false).good.header

pub overflow_cast-end_at : goal.overflow_cast-end_at
overflow_cast-end_at c = let e = c.end_at.ensures.end in let w =
    (step_at c.pop.new.self.items c.in-Some.list c.loop-list.invariant c.in-Some.ensures.items
    c.if-at-list.false).good.name in let s = c.args.self.now.sound.small in omega arith

pub push-requires-in-Some : goal.push-requires-in-Some
push-requires-in-Some c =
    (lit< tt, room c.pop.new.self.items c.in-Some.list c.loop-list.invariant c.in-Some.ensures.items)

pub offset_at-requires-in-Some : goal.offset_at-requires-in-Some
offset_at-requires-in-Some c = (step_at c.pop.new.self.items c.in-Some.list c.loop-list.invariant
    c.in-Some.ensures.items c.if-at-list.false).good.header

pub list_end_at-requires-in-Some : goal.list_end_at-requires-in-Some
list_end_at-requires-in-Some c = (step_at c.pop.new.self.items c.in-Some.list c.loop-list.invariant
    c.in-Some.ensures.items c.if-at-list.false).good.header

pub push-requires-in-Some-2 : goal.push-requires-in-Some-2
push-requires-in-Some-2 c = (
  lit< tt,
  room_more c.pop.new.self.items c.in-Some.list c.loop-list.invariant c.in-Some.ensures.items
      (c.end_at.result, c.in-Some.list.1) c.push-in-Some.new.self.items c.if-at-list.false c.push-in-Some.ensures.items,
)

pub loop-list-smaller : goal.loop-list-smaller
loop-list-smaller c = (walk_entry c.pop.new.self.items c.in-Some.list c.loop-list.invariant c.in-Some.ensures.items
    (c.end_at.result, c.in-Some.list.1)
    (c.offset_at-in-Some.result, c.list_end_at-in-Some.result) c.push-in-Some.new.self.items
    c.push-in-Some-2.new.self.items c.if-at-list.false c.if-at-n.false
    (λ t. (c.end_at.ensures.end t, c.in-Some.list.1)) c.push-in-Some.ensures.items
    (λ t. (c.offset_at-in-Some.ensures.start t, c.list_end_at-in-Some.ensures t)) c.push-in-Some-2.ensures.items).1

pub loop-list-preserved : goal.loop-list-preserved
loop-list-preserved c = (walk_entry c.pop.new.self.items c.in-Some.list c.loop-list.invariant c.in-Some.ensures.items
    (c.end_at.result, c.in-Some.list.1)
    (c.offset_at-in-Some.result, c.list_end_at-in-Some.result) c.push-in-Some.new.self.items
    c.push-in-Some-2.new.self.items c.if-at-list.false c.if-at-n.false
    (λ t. (c.end_at.ensures.end t, c.in-Some.list.1)) c.push-in-Some.ensures.items
    (λ t. (c.offset_at-in-Some.ensures.start t, c.list_end_at-in-Some.ensures t)) c.push-in-Some-2.ensures.items).0

pub returns : goal.returns
returns c = among_decides _ c.args.n.0 false
    (none_left c.args.self.now.accessible.order c.args.self.now.accessible.bytes.now c.args.self.now.references
    c.args.n.0 c.loop-list.stack.items c.in_default.ensures.variant.1 ∙ c.loop-list.invariant.same)
