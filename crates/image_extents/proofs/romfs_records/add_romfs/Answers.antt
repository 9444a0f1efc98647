use Rattle.std.proofs.Common.{◌≡◌, ◌∙◌, ◌∷◌, [], ◌++◌, List, ap, length, arith}
use Rattle.image_extents.specs.declared.extent.Record.{Record}
use Rattle.image_extents.specs.Listed.{root_entry}
use Rattle.image_extents.proofs.RomfsWalk.{walk_start, walk_zero, walk_on, walk_end, step_at}
use Rattle.image_extents.proofs.romfs_records.add_romfs.Goals as goal

pub add_record-requires-clause-small : goal.add_record-requires-clause-small
add_record-requires-clause-small c = c.requires.romfs.2.small

pub add_record-requires-clause-header : goal.add_record-requires-clause-header
add_record-requires-clause-header c = let h = c.requires.romfs.2.root.header in omega arith

pub add_record-requires-clause-name : goal.add_record-requires-clause-name
add_record-requires-clause-name c = c.requires.romfs.2.root.name_ends

pub add_record-requires-clause-within : goal.add_record-requires-clause-within
add_record-requires-clause-within c = c.requires.romfs.2.root.within

pub start_at-requires : goal.start_at-requires
start_at-requires c = let h = c.requires.romfs.2.root.header in omega arith

pub loop-list-init : goal.loop-list-init
loop-list-init c =
    walk_start c.args.b.now c.args.root c.start_at.result c.push.new.self.items c.args.extents.now.items
    c.add.new.extents.items c.add_record.new.extents.items c.new-lists.result.items c.push-2.new.self.items
    c.requires.romfs.0 c.requires.romfs.1 c.requires.romfs.2
    (c.in_ok-push.ensures.items ∙ ap (λ (v : List Record). v ++ root_entry c.args.root ∷ []) c.requires.none.0)
    c.requires.none.1 c.in_ok-add.ensures c.in_ok-add_record.ensures
    c.new-lists.ensures.items c.start_at.ensures c.in_ok-push-2.ensures.items

pub loop-list-smaller-then-at-eq0 : goal.loop-list-smaller-then-at-eq0
loop-list-smaller-then-at-eq0 c =
    (walk_zero c.pop.new.self.items c.in-Some.list c.loop-list.invariant c.in-Some.ensures.items c.if-at-eq0.true).1

pub loop-list-preserved-then-at-eq0 : goal.loop-list-preserved-then-at-eq0
loop-list-preserved-then-at-eq0 c =
    (walk_zero c.pop.new.self.items c.in-Some.list c.loop-list.invariant c.in-Some.ensures.items c.if-at-eq0.true).0

pub add_record-requires-in-Some-clause-header : goal.add_record-requires-in-Some-clause-header
add_record-requires-in-Some-clause-header c =
    (step_at c.pop.new.self.items c.in-Some.list c.loop-list.invariant c.in-Some.ensures.items
    c.if-at-eq0.false).good.sound.header

pub add_record-requires-in-Some-clause-name : goal.add_record-requires-in-Some-clause-name
add_record-requires-in-Some-clause-name c =
    (step_at c.pop.new.self.items c.in-Some.list c.loop-list.invariant c.in-Some.ensures.items
    c.if-at-eq0.false).good.sound.name_ends

pub add_record-requires-in-Some-clause-within : goal.add_record-requires-in-Some-clause-within
add_record-requires-in-Some-clause-within c =
    (step_at c.pop.new.self.items c.in-Some.list c.loop-list.invariant c.in-Some.ensures.items
    c.if-at-eq0.false).good.sound.within

pub next_at-requires : goal.next_at-requires
next_at-requires c =
    let h = (step_at c.pop.new.self.items c.in-Some.list c.loop-list.invariant c.in-Some.ensures.items
    c.if-at-eq0.false).good.sound.header in omega arith

pub first_at-requires : goal.first_at-requires
first_at-requires c =
    let h = (step_at c.pop.new.self.items c.in-Some.list c.loop-list.invariant c.in-Some.ensures.items
    c.if-at-eq0.false).good.sound.header in omega arith

pub entry_at-requires-clause-name : goal.entry_at-requires-clause-name
entry_at-requires-clause-name c =
    (step_at c.pop.new.self.items c.in-Some.list c.loop-list.invariant c.in-Some.ensures.items
    c.if-at-eq0.false).good.sound.name_ends

pub loop-list-smaller : goal.loop-list-smaller
loop-list-smaller c =
    (walk_on c.pop.new.self.items c.in-Some.list c.loop-list.invariant c.in-Some.ensures.items
    c.len-number.result c.entry_at.result c.push-in-Some.new.self.items
    c.add_record-in-Some.new.extents.items c.next_at.result c.first_at.result c.push-in-Some-2.new.self.items
    c.push-in-Some-3.new.self.items
    c.if-at-eq0.false (omega (arith, c.len-number.ensures)) c.entry_at.ensures c.in_ok-push-3.ensures.items
    c.in_ok-add_record-2.ensures c.next_at.ensures c.in_ok-push-4.ensures.items c.first_at.ensures
    c.in_ok-push-5.ensures.items).1

pub loop-list-preserved : goal.loop-list-preserved
loop-list-preserved c =
    (walk_on c.pop.new.self.items c.in-Some.list c.loop-list.invariant c.in-Some.ensures.items
    c.len-number.result c.entry_at.result c.push-in-Some.new.self.items
    c.add_record-in-Some.new.extents.items c.next_at.result c.first_at.result c.push-in-Some-2.new.self.items
    c.push-in-Some-3.new.self.items
    c.if-at-eq0.false (omega (arith, c.len-number.ensures)) c.entry_at.ensures c.in_ok-push-3.ensures.items
    c.in_ok-add_record-2.ensures c.next_at.ensures c.in_ok-push-4.ensures.items c.first_at.ensures
    c.in_ok-push-5.ensures.items).0

pub returns-clause-records : goal.returns-clause-records
returns-clause-records c =
    let empty : length c.loop-list.lists.items ≡ 0 = omega (arith, c.in_default.ensures.cases) in
    (walk_end c.args.b.now c.args.root c.loop-list.records.items c.loop-list.extents.items c.loop-list.lists.items empty
    c.loop-list.invariant).0

pub returns-clause-extents : goal.returns-clause-extents
returns-clause-extents c =
    let empty : length c.loop-list.lists.items ≡ 0 = omega (arith, c.in_default.ensures.cases) in
    (walk_end c.args.b.now c.args.root c.loop-list.records.items c.loop-list.extents.items c.loop-list.lists.items empty
    c.loop-list.invariant).1
