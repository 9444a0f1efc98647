use Rattle.std.proofs.Common.{false, ◌≡◌, sym, ap, ◌∙◌, subst, ℕ, [], ◌∷◌, ◌++◌, List, append_assoc, ◌<◌, length}
use Rattle.std.specs.List.{flat_map}
use Rattle.std.specs.Io.KnownBytes.{Appends}
use Rattle.rom_fields.specs.Written.{Puts, Output, sink, AppendsPrefix}
use Rattle.rom_fields.proofs.Joins.{chain, puts_nothing, said_ok, said_front, said_rose, said_quiet, front_first}
use Rattle.rom_fields.proofs.Joins.{front_all}
use Rattle.rom_tree.specs.Image.{Image}
use Rattle.image_check.specs.Any.{any_view}
use Rattle.rom_tree.specs.Names.{Name}
use Rattle.rom_tree.specs.Walks.{to_come}
use Rattle.rom_tree.proofs.Listed.{fewer}
use Rattle.image_compare.specs.Digests.{digest_line, node_line, digest_text}
use Rattle.image_compare.proofs.Walked.{more_texts, last_texts}
use Rattle.image_compare.proofs.digests.write_digests.Goals as goal

pub loop-failed-init : goal.loop-failed-init
unfolding digest_text
loop-failed-init g c =
    let m : Image = any_view c.args.image.now in
    record {
      known = c.new-known.ensures;
      walk = c.new-walk.ensures.walk m c.requires;
      before = [];
      names = c.new-walk.ensures.all m;
      done = [];
      puts = puts_nothing (sink (g.W.ByteWrite.output c.args.w.now) false);
      rest = ap (flat_map (digest_line m.bytes)) (c.new-walk.ensures.all m);
    }

pub loop-failed-preserved : goal.loop-failed-preserved
loop-failed-preserved g c =
    let m : Image = any_view c.args.image.now in
    let i = c.loop-failed.invariant in
    let n = c.in-Some.ensures.given in
    let P : List ℕ → Type 0 = λ v. Puts (sink (g.W.ByteWrite.output c.loop-failed.w) c.loop-failed.failed)
    (sink (g.W.ByteWrite.output c.put_line.new.w) c.put_line.new.failed)
    (node_line m.bytes v n.name.node) in
    record {
      known = c.put_line.ensures.known;
      walk = c.in-Some.ensures.walk;
      before = i.before ++ n.name ∷ [];
      names = append_assoc i.before (n.name ∷ []) (to_come m c.next.new.self)
          ∙ (ap (λ (v : List Name). i.before ++ v) (sym n.first) ∙ i.names);
      done = i.done ++ digest_line m.bytes n.name;
      puts = chain i.puts (subst P n.path (c.in-Ok.ensures.ok n.name.node n.node));
      rest = more_texts (digest_line m.bytes) i.done (digest_text m.bytes m.tree) n.name
          (to_come m c.loop-failed.walk) (to_come m c.next.new.self) n.first i.rest;
    }

pub loop-failed-smaller : goal.loop-failed-smaller
loop-failed-smaller g c =
    let m : Image = any_view c.args.image.now in
    let n = c.in-Some.ensures.given in
    fewer n.name (to_come m c.loop-failed.walk) (to_come m c.next.new.self) n.first

pub returns-clause-err : goal.returns-clause-err
returns-clause-err g c =
    let m : Image = any_view c.args.image.now in
    let i = c.loop-failed.invariant in
    let P : List ℕ → Type 0 = λ v. AppendsPrefix (g.W.ByteWrite.output c.args.w.now).contents
    (g.W.ByteWrite.output c.loop-failed.w).contents v in
    subst P i.rest (front_first (g.W.ByteWrite.output c.args.w.now).contents
    (g.W.ByteWrite.output c.loop-failed.w).contents i.done
    (flat_map (digest_line m.bytes) (to_come m c.loop-failed.walk))
    (said_front (g.W.ByteWrite.output c.args.w.now)
    (g.W.ByteWrite.output c.loop-failed.w) c.loop-failed.failed i.done c.loop-failed-test.false i.puts))

pub returns-clause-rose : goal.returns-clause-rose
returns-clause-rose g c = λ e. let i = c.loop-failed.invariant in said_rose (g.W.ByteWrite.output c.args.w.now)
    (g.W.ByteWrite.output c.loop-failed.w) c.loop-failed.failed i.done c.loop-failed-test.false i.puts

pub returns-in_default-clause-ok : goal.returns-in_default-clause-ok
returns-in_default-clause-ok g c =
    let m : Image = any_view c.args.image.now in
    let i = c.loop-failed.invariant in
    let e : i.done ≡ digest_text m.bytes m.tree =
    last_texts (digest_line m.bytes) i.done (digest_text m.bytes m.tree)
    (to_come m c.loop-failed.walk) c.in_default.ensures.given.before i.rest in
    let P : List ℕ → Type 0 =
    λ v. Appends (g.W.ByteWrite.output c.args.w.now).contents (g.W.ByteWrite.output c.loop-failed.w).contents v in
    subst P e (said_ok (g.W.ByteWrite.output c.args.w.now)
    (g.W.ByteWrite.output c.loop-failed.w) c.loop-failed.failed i.done c.loop-failed-test.true i.puts)

pub returns-in_default-clause-quiet : goal.returns-in_default-clause-quiet
returns-in_default-clause-quiet g c = let i = c.loop-failed.invariant in
    said_quiet (g.W.ByteWrite.output c.args.w.now)
    (g.W.ByteWrite.output c.loop-failed.w) c.loop-failed.failed i.done c.loop-failed-test.true i.puts

pub returns-in-Err-clause-err : goal.returns-in-Err-clause-err
returns-in-Err-clause-err g c =
    let m : Image = any_view c.args.image.now in
    let i = c.loop-failed.invariant in
    let old = (g.W.ByteWrite.output c.args.w.now).contents in
    let P : List ℕ → Type 0 = λ v. AppendsPrefix old (g.W.ByteWrite.output c.put_line.new.w).contents v in
    let Q : Output → Type 0 = λ o. AppendsPrefix old o.contents i.done in
    subst P i.rest (front_first old (g.W.ByteWrite.output c.put_line.new.w).contents i.done
    (flat_map (digest_line m.bytes) (to_come m c.loop-failed.walk))
    (subst Q (sym c.in-Err.ensures.output) (front_all old (g.W.ByteWrite.output c.loop-failed.w).contents i.done
    (said_ok (g.W.ByteWrite.output c.args.w.now)
    (g.W.ByteWrite.output c.loop-failed.w) c.loop-failed.failed i.done c.loop-failed-test.true i.puts))))

pub returns-in-Err-clause-still : goal.returns-in-Err-clause-still
returns-in-Err-clause-still g c = λ e. let i = c.loop-failed.invariant in
    ap (λ (o : Output). o.failures) c.in-Err.ensures.output
    ∙ said_quiet (g.W.ByteWrite.output c.args.w.now)
    (g.W.ByteWrite.output c.loop-failed.w) c.loop-failed.failed i.done c.loop-failed-test.true i.puts

pub returns-in-Err-clause-long : goal.returns-in-Err-clause-long
returns-in-Err-clause-long g c = λ e.
    let m : Image = any_view c.args.image.now in
    let i = c.loop-failed.invariant in
    let n = c.in-Some.ensures.given in
    let P : List ℕ → Type 0 = λ v. 16384 < length v in
    record {
      before = i.before;
      name = n.name;
      after = to_come m c.next.new.self;
      is = sym (ap (λ (v : List Name). i.before ++ v) (sym n.first) ∙ i.names);
      regular = c.in-Err.ensures.regular n.name.node n.node;
      long = subst P n.path c.in-Err.ensures.long;
    }
