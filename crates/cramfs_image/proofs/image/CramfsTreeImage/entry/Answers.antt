use Rattle.std.proofs.Common.{arith, ◌<◌, ◌≤◌, ◌∙◌, inl, inr}
use Rattle.cramfs_format.specs.Inode.{list_end}
use Rattle.cramfs_format.proofs.Trees.{named, directory_known}
use Rattle.cramfs_image.proofs.Calls.{IsPlace, step_from, no_entry, entry_here}
use Rattle.cramfs_image.proofs.image.CramfsTreeImage.entry.Goals as goal
use Rattle.cramfs_image.proofs.image.CramfsTreeImage.entry.Goals.{then-c-eq0, else-c-eq0}

pub list_end_at-end-requires : goal.list_end_at-end-requires
list_end_at-end-requires c = (directory_known c.args.self.now.sound c.args.d.0 c.requires.directory).0.header

pub offset_at-requires : goal.offset_at-requires
offset_at-requires c = (directory_known c.args.self.now.sound c.args.d.0 c.requires.directory).0.header

pub returns-then-next-from : goal.returns-then-next-from
returns-then-next-from c =
    let b = c.args.self.now.accessible.bytes.now in
    let k = c.args.self.now.references in
    let kd = directory_known c.args.self.now.sound c.args.d.0 c.requires.directory in
    let place : IsPlace c.args.self.now.accessible.order b c.args.d.0 c.args.c.0 c.if-c-eq0.next =
    elim c.if-c-eq0.branch [
      | then-c-eq0 w ↦ inl (w.if-c-eq0.true, w.next-is ∙ w.from-next.ensures ∙ w.offset_at.ensures.start)
      | else-c-eq0 w ↦ inr (w.if-c-eq0.false, w.next-is)
    ] in
    let e = c.list_end_at-end.ensures in
    let f = c.from.ensures in
    let l = c.if-next-from.true in
    let past : list_end c.args.self.now.accessible.order b c.args.d.0 ≤ c.if-c-eq0.next = omega arith in
    λ x i h g. no_entry c.args.self.now.accessible.order b k c.args.d.0 c.args.c.0 c.if-c-eq0.next i x
    (named c.args.self.now.sound c.args.d.0 x h).0 kd.1 kd.0 place g past

pub name_at-name-requires-clause-header : goal.name_at-name-requires-clause-header
name_at-name-requires-clause-header c =
    let b = c.args.self.now.accessible.bytes.now in
    let k = c.args.self.now.references in
    let kd = directory_known c.args.self.now.sound c.args.d.0 c.requires.directory in
    let place : IsPlace c.args.self.now.accessible.order b c.args.d.0 c.args.c.0 c.if-c-eq0.next =
    elim c.if-c-eq0.branch [
      | then-c-eq0 w ↦ inl (w.if-c-eq0.true, w.next-is ∙ w.from-next.ensures ∙ w.offset_at.ensures.start)
      | else-c-eq0 w ↦ inr (w.if-c-eq0.false, w.next-is)
    ] in
    let e = c.list_end_at-end.ensures in
    let f = c.from.ensures in
    let l = c.if-next-from.false in
    let inside : c.if-c-eq0.next < list_end c.args.self.now.accessible.order b c.args.d.0 = omega arith in
    (step_from c.args.self.now.accessible.order b k c.args.d.0 c.args.c.0 c.if-c-eq0.next kd.0 place c.requires.cursor
    inside).good.header

pub name_at-name-requires-clause-name : goal.name_at-name-requires-clause-name
name_at-name-requires-clause-name c =
    let b = c.args.self.now.accessible.bytes.now in
    let k = c.args.self.now.references in
    let kd = directory_known c.args.self.now.sound c.args.d.0 c.requires.directory in
    let place : IsPlace c.args.self.now.accessible.order b c.args.d.0 c.args.c.0 c.if-c-eq0.next =
    elim c.if-c-eq0.branch [
      | then-c-eq0 w ↦ inl (w.if-c-eq0.true, w.next-is ∙ w.from-next.ensures ∙ w.offset_at.ensures.start)
      | else-c-eq0 w ↦ inr (w.if-c-eq0.false, w.next-is)
    ] in
    let e = c.list_end_at-end.ensures in
    let f = c.from.ensures in
    let l = c.if-next-from.false in
    let inside : c.if-c-eq0.next < list_end c.args.self.now.accessible.order b c.args.d.0 = omega arith in
    (step_from c.args.self.now.accessible.order b k c.args.d.0 c.args.c.0 c.if-c-eq0.next kd.0 place c.requires.cursor
    inside).good.name

pub end_at-requires : goal.end_at-requires
end_at-requires c =
    let b = c.args.self.now.accessible.bytes.now in
    let k = c.args.self.now.references in
    let kd = directory_known c.args.self.now.sound c.args.d.0 c.requires.directory in
    let place : IsPlace c.args.self.now.accessible.order b c.args.d.0 c.args.c.0 c.if-c-eq0.next =
    elim c.if-c-eq0.branch [
      | then-c-eq0 w ↦ inl (w.if-c-eq0.true, w.next-is ∙ w.from-next.ensures ∙ w.offset_at.ensures.start)
      | else-c-eq0 w ↦ inr (w.if-c-eq0.false, w.next-is)
    ] in
    let e = c.list_end_at-end.ensures in
    let f = c.from.ensures in
    let l = c.if-next-from.false in
    let inside : c.if-c-eq0.next < list_end c.args.self.now.accessible.order b c.args.d.0 = omega arith in
    (step_from c.args.self.now.accessible.order b k c.args.d.0 c.args.c.0 c.if-c-eq0.next kd.0 place c.requires.cursor
    inside).good.header

pub returns : goal.returns
returns c =
    let b = c.args.self.now.accessible.bytes.now in
    let k = c.args.self.now.references in
    let kd = directory_known c.args.self.now.sound c.args.d.0 c.requires.directory in
    let place : IsPlace c.args.self.now.accessible.order b c.args.d.0 c.args.c.0 c.if-c-eq0.next =
    elim c.if-c-eq0.branch [
      | then-c-eq0 w ↦ inl (w.if-c-eq0.true, w.next-is ∙ w.from-next.ensures ∙ w.offset_at.ensures.start)
      | else-c-eq0 w ↦ inr (w.if-c-eq0.false, w.next-is)
    ] in
    let e = c.list_end_at-end.ensures in
    let f = c.from.ensures in
    let l = c.if-next-from.false in
    let inside : c.if-c-eq0.next < list_end c.args.self.now.accessible.order b c.args.d.0 = omega arith in
    λ x i h g. entry_here c.args.self.now.accessible.order c.args.self.now.all.now b k c.args.self.now.sound
    c.args.self.now.within c.args.d.0 c.args.c.0 c.if-c-eq0.next i _ _ x c.args.self.now.front
    (named c.args.self.now.sound c.args.d.0 x h).0 kd.1 kd.0 place g inside
    c.name_at-name.ensures c.end_at.ensures.end
