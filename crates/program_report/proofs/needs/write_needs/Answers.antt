use Rattle.std.proofs.Common.{◌≡◌, ap, sym, ◌∙◌, subst, ℕ, List, [], ◌++◌, IfOk, Bool, not, ◌+◌, ◌||◌, length, refl}
use Rattle.std.proofs.lemmas.Bool.{OnFalse_at, OnTrue_at}
use Rattle.std.specs.Io.KnownBytes.{Appends}
use Rattle.rom_fields.specs.Texts.{escaped}
use Rattle.rom_fields.specs.Written.{AppendsPrefix, WritesText}
use Rattle.rom_fields.proofs.Joins.{chain, said_ok, said_front, said_rose, said_quiet, front_first, puts_nothing}
use Rattle.rom_tree.specs.Image.{Image}
use Rattle.rom_tree.specs.Names.{Name, names}
use Rattle.rom_tree.specs.Walks.{IsOver, IsWalk, given_path, to_come}
use Rattle.path_walk.specs.Components.{is_empty}
use Rattle.program_report.specs.Effort.{Allowance, budget, longest_link}
use Rattle.program_report.specs.Needs.{missing, need_lines, needs_from, needs_text, needs_warn, unread_line}
use Rattle.program_report.proofs.NeedLines.{last_needs, more_needs, some_of_both, stopped_needs, unread_warns}
use Rattle.program_report.proofs.Walked.{counts_after, writes_after}
use Rattle.program_report.proofs.needs.write_needs.Goals as goal

pub loop-failed-init : goal.loop-failed-init
unfolding needs_text
loop-failed-init g c =
    let m : Image = g.T.Viewed.image c.args.image.now in
    let longest : ℕ = longest_link (names m.tree) in
    let come : List Name = to_come m c.new-walk.result in
    record {
      image = refl;
      walk = c.new-walk.ensures.walk m c.requires;
      done = [];
      puts = puts_nothing _;
      rest =
          ap (λ (v : Allowance). needs_from m v.longest v.left come) c.of-effort.ensures
          ∙ (ap (λ (v : List ℕ). needs_from m longest (1048576 + length v) come) c.bytes-bytes.ensures
          ∙ ap (needs_from m longest (budget m)) (c.new-walk.ensures.all m));
      warns = refl;
    }

pub loop-failed-preserved : goal.loop-failed-preserved
loop-failed-preserved g c =
    let m : Image = g.T.Viewed.image c.args.image.now in
    let n : Image = g.T.Viewed.image c.loop-failed.image in
    let i = c.loop-failed.invariant in
    let k = c.needs_in-needs.result in
    let new = c.next.new.self in
    let lines : List ℕ = need_lines (escaped (given_path new)) (missing n k) in
    let have : Allowance = c.loop-failed.effort in
    let rest : Allowance = c.take.new.self in
    let P : Image → Type 0 = λ v. i.done ++ needs_from v have.longest have.left (to_come v c.loop-failed.walk)
    ≡ needs_text m in
    let Q : Image → Type 0 = λ v. (i.done ++ lines) ++ needs_from v rest.longest rest.left (to_come v new)
    ≡ needs_text m in
    record {
      image = c.put_needs-warns.ensures.stays ∙ i.image;
      walk = subst (λ (v : Image). IsWalk v new) i.image c.in-Some.ensures.walk;
      done = i.done ++ lines;
      puts = chain i.puts c.put_needs-warns.ensures.text;
      rest =
          subst Q i.image
          (more_needs n c.loop-failed.walk new c.in-Some.node.0 c.stat-stat.result k have rest i.done (needs_text m)
          c.in-Some.ensures.given c.stat-stat.ensures c.needs_in-needs.ensures c.take.ensures.longest
          (OnTrue_at c.if-not-take.false c.take.ensures.taken) (subst P (sym i.image) i.rest));
      warns =
          ap (λ (b : Bool). b || c.put_needs-warns.result) i.warns
          ∙ (ap (λ (b : Bool). not (is_empty i.done) || b) c.put_needs-warns.ensures.some
          ∙ sym (some_of_both i.done lines));
    }

pub returns-clause-text : goal.returns-clause-text
returns-clause-text g c =
    let m : Image = g.T.Viewed.image c.args.image.now in
    let i = c.loop-failed.invariant in
    let old = g.W.ByteWrite.output c.args.w.now in
    let new = g.W.ByteWrite.output c.loop-failed.w in
    let rest : List ℕ = needs_from m c.loop-failed.effort.longest c.loop-failed.effort.left
    (to_come m c.loop-failed.walk) in
    let P : List ℕ → Type 0 = λ v. AppendsPrefix old.contents new.contents v in
    subst P i.rest
    (front_first old.contents new.contents i.done rest
    (said_front old new c.loop-failed.failed i.done c.loop-failed-test.false i.puts))

pub returns-clause-count : goal.returns-clause-count
returns-clause-count g c =
    let i = c.loop-failed.invariant in
    said_rose (g.W.ByteWrite.output c.args.w.now) (g.W.ByteWrite.output c.loop-failed.w) c.loop-failed.failed i.done
    c.loop-failed-test.false i.puts

-- nothing is to come
pub returns-in_default-clause-text : goal.returns-in_default-clause-text
returns-in_default-clause-text g c =
    let m : Image = g.T.Viewed.image c.args.image.now in
    let i = c.loop-failed.invariant in
    let old = g.W.ByteWrite.output c.args.w.now in
    let mid = g.W.ByteWrite.output c.loop-failed.w in
    let o = subst (λ (v : Image). IsOver v c.loop-failed.walk c.next.new.self) i.image c.in_default.ensures.given in
    let e : i.done ≡ needs_text m =
    last_needs m c.loop-failed.effort.longest c.loop-failed.effort.left i.done (needs_text m)
    (to_come m c.loop-failed.walk) o.before i.rest in
    let P : List ℕ → Type 0 = λ v. Appends old.contents mid.contents v in
    subst P e (said_ok old mid c.loop-failed.failed i.done c.loop-failed-test.true i.puts)

pub returns-in_default-clause-count : goal.returns-in_default-clause-count
returns-in_default-clause-count g c =
    let i = c.loop-failed.invariant in
    said_quiet (g.W.ByteWrite.output c.args.w.now) (g.W.ByteWrite.output c.loop-failed.w) c.loop-failed.failed i.done
    c.loop-failed-test.true i.puts

pub returns-in_default-clause-warns : goal.returns-in_default-clause-warns
unfolding needs_warn
returns-in_default-clause-warns g c =
    let m : Image = g.T.Viewed.image c.args.image.now in
    let i = c.loop-failed.invariant in
    let o = subst (λ (v : Image). IsOver v c.loop-failed.walk c.next.new.self) i.image c.in_default.ensures.given in
    let e : i.done ≡ needs_text m =
    last_needs m c.loop-failed.effort.longest c.loop-failed.effort.left i.done (needs_text m)
    (to_come m c.loop-failed.walk) o.before i.rest in
    i.warns ∙ ap (λ (v : List ℕ). not (is_empty v)) e

-- a file costs too much
pub returns-then-not-take-clause-text : goal.returns-then-not-take-clause-text
returns-then-not-take-clause-text g c =
    let m : Image = g.T.Viewed.image c.args.image.now in
    let n : Image = g.T.Viewed.image c.loop-failed.image in
    let i = c.loop-failed.invariant in
    let old = g.W.ByteWrite.output c.args.w.now in
    let mid = g.W.ByteWrite.output c.loop-failed.w in
    let new = g.W.ByteWrite.output c.finish_unread.new.w in
    let line : List ℕ = unread_line (escaped (given_path c.next.new.self)) in
    let have : Allowance = c.loop-failed.effort in
    let P : Image → Type 0 = λ v. i.done ++ needs_from v have.longest have.left (to_come v c.loop-failed.walk)
    ≡ needs_text m in
    let Q : List ℕ → Type 0 = λ v. WritesText old.contents new.contents c.finish_unread.result v in
    subst Q
    (stopped_needs n c.loop-failed.walk c.next.new.self c.in-Some.node.0 c.stat-stat.result
    c.needs_in-needs.result have i.done (needs_text m) c.in-Some.ensures.given c.stat-stat.ensures
    c.needs_in-needs.ensures (OnFalse_at c.if-not-take.true c.take.ensures.too_much) (subst P (sym i.image) i.rest))
    (writes_after old.contents mid.contents new.contents i.done line c.finish_unread.result
    (said_ok old mid c.loop-failed.failed i.done c.loop-failed-test.true i.puts) c.finish_unread.ensures.text)

pub returns-then-not-take-clause-count : goal.returns-then-not-take-clause-count
returns-then-not-take-clause-count g c =
    let i = c.loop-failed.invariant in
    let old = g.W.ByteWrite.output c.args.w.now in
    let mid = g.W.ByteWrite.output c.loop-failed.w in
    let new = g.W.ByteWrite.output c.finish_unread.new.w in
    counts_after old.failures mid.failures new.failures c.finish_unread.result
    (said_quiet old mid c.loop-failed.failed i.done c.loop-failed-test.true i.puts) c.finish_unread.ensures.count

pub returns-then-not-take-clause-warns : goal.returns-then-not-take-clause-warns
unfolding needs_warn
returns-then-not-take-clause-warns g c =
    let m : Image = g.T.Viewed.image c.args.image.now in
    let n : Image = g.T.Viewed.image c.loop-failed.image in
    let i = c.loop-failed.invariant in
    let have : Allowance = c.loop-failed.effort in
    let P : Image → Type 0 = λ v. i.done ++ needs_from v have.longest have.left (to_come v c.loop-failed.walk)
    ≡ needs_text m in
    let Q : Bool → Type 0 = λ v. IfOk c.finish_unread.result (λ b. b ≡ v) in
    subst Q
    (unread_warns i.done (escaped (given_path c.next.new.self)) (needs_text m)
    (stopped_needs n c.loop-failed.walk c.next.new.self c.in-Some.node.0 c.stat-stat.result
    c.needs_in-needs.result have i.done (needs_text m) c.in-Some.ensures.given c.stat-stat.ensures
    c.needs_in-needs.ensures (OnFalse_at c.if-not-take.true c.take.ensures.too_much) (subst P (sym i.image) i.rest)))
    c.finish_unread.ensures.warns
