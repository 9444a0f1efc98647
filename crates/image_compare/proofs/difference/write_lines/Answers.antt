use Rattle.std.proofs.Common.{◌≡◌, ℕ, List, [], drop, ◌∙◌, ap, subst}
use Rattle.std.specs.Io.KnownBytes.{Appends}
use Rattle.rom_fields.specs.Written.{AppendsPrefix}
use Rattle.rom_fields.proofs.Joins.{said_ok, said_quiet, said_front, said_rose, front_first}
use Rattle.rom_tree.specs.Image.{Image}
use Rattle.image_check.specs.Any.{any_view}
use Rattle.image_compare.specs.Diff.{names_lines, is_printed}
use Rattle.image_compare.proofs.Reached.{reached_more, reached_all}
use Rattle.image_compare.proofs.Stepped.{nothing_next, step_within}
use Rattle.image_compare.proofs.difference.write_lines.Goals as goal

pub name_at-x-requires : goal.name_at-x-requires
name_at-x-requires g c = (any_view c.args.old.now, c.requires.old)

pub name_at-y-requires : goal.name_at-y-requires
name_at-y-requires g c = (any_view c.args.new.now, c.requires.new)

pub returns-then-are_over : goal.returns-then-are_over
returns-then-are_over g c = λ ps qs d e.
    let m : Image = any_view c.args.old.now in
    let n : Image = any_view c.args.new.now in
    let h = c.loop-failed.invariant.reached ps qs d e in
    let p : drop c.loop-failed.i ps ≡ [] =
    nothing_next m c.name_at-x.result (drop c.loop-failed.i ps) c.if-are_over.ensures.old
    (c.name_at-x.ensures.next m ps d) in
    let q : drop c.loop-failed.j qs ≡ [] =
    nothing_next n c.name_at-y.result (drop c.loop-failed.j qs) c.if-are_over.ensures.new
    (c.name_at-y.ensures.next n qs e) in
    let all : h.done ≡ names_lines c.args.places m.bytes n.bytes ps qs =
    reached_all _ _ c.args.places m.bytes n.bytes ps qs c.loop-failed.i c.loop-failed.j c.loop-failed.printed p q h in
    let P : List ℕ → Type 0 = λ v. Appends (g.W.ByteWrite.output c.args.w.now).contents
    (g.W.ByteWrite.output c.loop-failed.w).contents v in (
      subst P all (said_ok (g.W.ByteWrite.output c.args.w.now) (g.W.ByteWrite.output c.loop-failed.w)
          c.loop-failed.failed
          h.done c.loop-failed-test.true h.puts),
      said_quiet (g.W.ByteWrite.output c.args.w.now) (g.W.ByteWrite.output c.loop-failed.w) c.loop-failed.failed
          h.done c.loop-failed-test.true h.puts,
      h.printed_is ∙ ap is_printed all,
    )

pub put_step-step-requires : goal.put_step-step-requires
put_step-step-requires g c =
    let m : Image = any_view c.args.old.now in
    let n : Image = any_view c.args.new.now in
    let k = c.requires.old in
    let l = c.requires.new in
    record {
      old = (drop c.loop-failed.i k.0, c.name_at-x.ensures.next m k.0 k.1);
      new = (drop c.loop-failed.j l.0, c.name_at-y.ensures.next n l.0 l.1);
      some = c.if-are_over.ensures.left;
      same = c.loop-failed.invariant.same;
    }

pub loop-failed-preserved : goal.loop-failed-preserved
loop-failed-preserved g c =
    let m : Image = any_view c.args.old.now in
    let n : Image = any_view c.args.new.now in
    let i = c.loop-failed.invariant in
    let s = c.put_step-step.ensures in
    record {
      same = s.same;
      within_old = step_within c.name_at-x.result c.loop-failed.i _ c.put_step-step.result.old i.within_old
          c.name_at-x.ensures.within s.old_one s.old_none;
      within_new = step_within c.name_at-y.result c.loop-failed.j _ c.put_step-step.result.new i.within_new
          c.name_at-y.ensures.within s.new_one s.new_none;
      reached = λ ps qs d e. reached_more _ _ _ c.args.places m.bytes n.bytes ps qs c.loop-failed.i c.loop-failed.j
          c.loop-failed.printed c.either-printed.result c.put_step-step.result (i.reached ps qs d e)
          (s.puts _ _ (c.name_at-x.ensures.next m ps d) (c.name_at-y.ensures.next n qs e)) c.either-printed.ensures;
    }

pub returns : goal.returns
returns g c = λ ps qs d e.
    let m : Image = any_view c.args.old.now in
    let n : Image = any_view c.args.new.now in
    let h = c.loop-failed.invariant.reached ps qs d e in
    let P : List ℕ → Type 0 = λ v. AppendsPrefix (g.W.ByteWrite.output c.args.w.now).contents
    (g.W.ByteWrite.output c.loop-failed.w).contents v in (
      subst P h.rest (front_first (g.W.ByteWrite.output c.args.w.now).contents
          (g.W.ByteWrite.output c.loop-failed.w).contents h.done
          (names_lines c.args.places m.bytes n.bytes (drop c.loop-failed.i ps) (drop c.loop-failed.j qs))
          (said_front (g.W.ByteWrite.output c.args.w.now) (g.W.ByteWrite.output c.loop-failed.w) c.loop-failed.failed
          h.done c.loop-failed-test.false h.puts)),
      said_rose (g.W.ByteWrite.output c.args.w.now) (g.W.ByteWrite.output c.loop-failed.w) c.loop-failed.failed
          h.done c.loop-failed-test.false h.puts,
    )
