use Rattle.std.proofs.Common.{◌≡◌, ◌∙◌, ◌∷◌, [], ◌++◌, List, ap, length, arith, subst, sym}
use Rattle.std.proofs.lemmas.List.Elements.{All-from_recursion}
use Rattle.std.specs.List.{AllByRecursion as Every}
use Rattle.cramfs_format.specs.Refers.{root_place}
use Rattle.image_extents.specs.declared.extent.Record.{Record}
use Rattle.image_extents.specs.Found.{IsWithin}
use Rattle.image_extents.specs.Listed.{root_entry}
use Rattle.image_extents.proofs.CramfsWalk.{walk_start, walk_done, walk_on, walk_end, step_at}
use Rattle.image_extents.proofs.Walk.{every_push}
use Rattle.image_extents.proofs.cramfs_records.list_records.Goals as goal

pub loop-list-init : goal.loop-list-init
loop-list-init c =
    let one = c.in_ok-push.ensures.items ∙ ap (λ (v : List Record). v ++ root_entry root_place ∷ []) c.requires.none in
    record {
      walks = walk_start c.args.order c.args.b.now c.offset_at.result c.list_end_at.result c.push.new.self.items
          c.new-lists.result.items c.push-2.new.self.items
          c.requires.cramfs.0 c.requires.cramfs.1 c.requires.cramfs.2 one
          c.new-lists.ensures.items c.offset_at.ensures.start c.list_end_at.ensures c.in_ok-push-2.ensures.items;
      within = subst (Every (λ (x : Record). IsWithin c.args.order c.args.b.now x.offset)) (sym one)
          (let long = c.requires.cramfs.2.long in (omega (arith, long), c.requires.cramfs.2.root.table), tt);
    }

pub loop-list-smaller-then-at-list : goal.loop-list-smaller-then-at-list
loop-list-smaller-then-at-list c =
    (walk_done c.pop.new.self.items c.in-Some.list c.loop-list.invariant.walks c.in-Some.ensures.items
    c.if-at-list.true).1

pub loop-list-preserved-then-at-list : goal.loop-list-preserved-then-at-list
loop-list-preserved-then-at-list c = record {
  walks = (walk_done c.pop.new.self.items c.in-Some.list c.loop-list.invariant.walks c.in-Some.ensures.items
      c.if-at-list.true).0;
  within = c.loop-list.invariant.within;
}

pub entry_at-requires-clause-header : goal.entry_at-requires-clause-header
entry_at-requires-clause-header c =
    (step_at c.pop.new.self.items c.in-Some.list c.loop-list.invariant.walks c.in-Some.ensures.items
    c.if-at-list.false).good.header

pub entry_at-requires-clause-within : goal.entry_at-requires-clause-within
entry_at-requires-clause-within c =
    (step_at c.pop.new.self.items c.in-Some.list c.loop-list.invariant.walks c.in-Some.ensures.items
    c.if-at-list.false).good.name

pub end_at-requires-clause-header : goal.end_at-requires-clause-header
end_at-requires-clause-header c =
    (step_at c.pop.new.self.items c.in-Some.list c.loop-list.invariant.walks c.in-Some.ensures.items
    c.if-at-list.false).good.header

pub end_at-requires-clause-within : goal.end_at-requires-clause-within
end_at-requires-clause-within c =
    (step_at c.pop.new.self.items c.in-Some.list c.loop-list.invariant.walks c.in-Some.ensures.items
    c.if-at-list.false).good.name

pub offset_at-requires-in-Some : goal.offset_at-requires-in-Some
offset_at-requires-in-Some c =
    (step_at c.pop.new.self.items c.in-Some.list c.loop-list.invariant.walks c.in-Some.ensures.items
    c.if-at-list.false).good.header

pub list_end_at-requires-in-Some : goal.list_end_at-requires-in-Some
list_end_at-requires-in-Some c =
    (step_at c.pop.new.self.items c.in-Some.list c.loop-list.invariant.walks c.in-Some.ensures.items
    c.if-at-list.false).good.header

pub loop-list-smaller : goal.loop-list-smaller
loop-list-smaller c =
    (walk_on c.pop.new.self.items c.in-Some.list c.loop-list.invariant.walks c.in-Some.ensures.items
    c.len-number.result c.entry_at.result c.push-in-Some.new.self.items c.end_at.result c.offset_at-in-Some.result
    c.list_end_at-in-Some.result c.push-in-Some-2.new.self.items c.push-in-Some-3.new.self.items
    c.if-at-list.false (omega (arith, c.len-number.ensures)) c.entry_at.ensures c.in_ok-push-3.ensures.items
    c.end_at.ensures
    c.in_ok-push-4.ensures.items c.offset_at-in-Some.ensures.start c.list_end_at-in-Some.ensures
    c.in_ok-push-5.ensures.items).1

pub loop-list-preserved : goal.loop-list-preserved
loop-list-preserved c = record {
  walks = (walk_on c.pop.new.self.items c.in-Some.list c.loop-list.invariant.walks c.in-Some.ensures.items
      c.len-number.result c.entry_at.result c.push-in-Some.new.self.items c.end_at.result c.offset_at-in-Some.result
      c.list_end_at-in-Some.result c.push-in-Some-2.new.self.items c.push-in-Some-3.new.self.items
      c.if-at-list.false (omega (arith, c.len-number.ensures)) c.entry_at.ensures c.in_ok-push-3.ensures.items
      c.end_at.ensures
      c.in_ok-push-4.ensures.items c.offset_at-in-Some.ensures.start c.list_end_at-in-Some.ensures
      c.in_ok-push-5.ensures.items).0;
  within =
      let good = (step_at c.pop.new.self.items c.in-Some.list c.loop-list.invariant.walks c.in-Some.ensures.items
      c.if-at-list.false).good in
      let P : Record → Type 0 = λ x. IsWithin c.args.order c.args.b.now x.offset in
      subst (Every P) (sym c.in_ok-push-3.ensures.items)
      (every_push P c.loop-list.records.items c.entry_at.result c.loop-list.invariant.within
      (subst P (sym c.entry_at.ensures) (good.header, good.body.table)));
}

pub returns-clause-records : goal.returns-clause-records
returns-clause-records c =
    let empty : length c.loop-list.lists.items ≡ 0 = omega (arith, c.in_default.ensures.cases) in
    walk_end c.args.order c.args.b.now c.loop-list.records.items c.loop-list.lists.items empty
    c.loop-list.invariant.walks

pub returns-clause-within : goal.returns-clause-within
returns-clause-within c = All-from_recursion (λ (x : Record). IsWithin c.args.order c.args.b.now x.offset)
    c.loop-list.records.items c.loop-list.invariant.within
