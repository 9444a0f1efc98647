use Rattle.std.proofs.Common.{◌≡◌, ◌<◌, ◌∙◌, ℕ, [], ◌∷◌, ◌++◌, List}
use Rattle.std.proofs.Common.{append_assoc, Bool, false, length, refl, sym, ap, subst, true}
use Rattle.std.specs.List.{flat_map}
use Rattle.std.specs.Io.KnownBytes.{Appends}
use Rattle.rom_fields.specs.Written.{AppendsPrefix, Output, Puts, sink}
use Rattle.rom_fields.proofs.Joins.{chain, front_all, front_first, said_front, said_ok, said_quiet, said_rose}
use Rattle.rom_tree.specs.Image.{Image}
use Rattle.rom_tree.specs.Names.{Name}
use Rattle.rom_tree.specs.Walks.{to_come}
use Rattle.rom_tree.proofs.Named.{has_node}
use Rattle.rom_tree.proofs.Listed.{fewer}
use Rattle.image_info.proofs.Walked.{last_texts, more_texts}
use Rattle.map_forms.specs.Header.{head_text, name_macros, node_macros}
use Rattle.map_forms.specs.Forms.{last_lines}
use Rattle.map_forms.proofs.Headers.{end_err, end_ok, end_rose, header_front, header_is, most_text}
use Rattle.map_forms.proofs.writing.write_map.Goals as goal

pub loop-failed-init : goal.loop-failed-init
loop-failed-init g c =
    let m : Image = g.T.Viewed.image c.args.image.now in
    let chosen : List ℕ → Bool = g.C.Choice.chosen c.args.choice.now in
    let head : List ℕ = head_text c.args.form c.args.prefix.now c.args.base (length m.bytes) in
    let P : List ℕ → Type 0 = λ v. Puts (sink (g.W.ByteWrite.output c.args.w.now) false)
    (sink (g.W.ByteWrite.output c.put_head.new.w) c.put_head.new.failed)
    (head_text c.args.form c.args.prefix.now c.args.base (length v)) in
    record {
      walk = c.new-walk.ensures.walk m c.requires;
      before = [];
      names = c.new-walk.ensures.all m;
      done = head;
      puts = subst P c.bytes.ensures c.put_head.ensures;
      rest = ap (λ (ns : List Name).
          head ++ flat_map (λ n. name_macros c.args.form chosen c.args.prefix.now c.args.base n) ns)
          (c.new-walk.ensures.all m);
    }

pub put_file-requires : goal.put_file-requires
put_file-requires g c κs =
    let m : Image = g.T.Viewed.image c.args.image.now in
    let n = c.in-Some.ensures.given in
    ((refl, tt), has_node m c.in-Some.node.0 n.name.node n.node)

pub loop-failed-preserved : goal.loop-failed-preserved
loop-failed-preserved g c =
    let m : Image = g.T.Viewed.image c.args.image.now in
    let chosen : List ℕ → Bool = g.C.Choice.chosen c.args.choice.now in
    let i = c.loop-failed.invariant in
    let n = c.in-Some.ensures.given in
    let f : Name → List ℕ = λ v. name_macros c.args.form chosen c.args.prefix.now c.args.base v in
    let P : List ℕ → Type 0 = λ v. Puts (sink (g.W.ByteWrite.output c.loop-failed.w) c.loop-failed.failed)
    (sink (g.W.ByteWrite.output c.put_file.new.w) c.put_file.new.failed)
    (node_macros c.args.form chosen c.args.prefix.now c.args.base v n.name.node) in
    record {
      walk = c.in-Some.ensures.walk;
      before = i.before ++ n.name ∷ [];
      names = append_assoc i.before (n.name ∷ []) (to_come m c.next.new.self)
          ∙ (ap (λ (v : List Name). i.before ++ v) (sym n.first) ∙ i.names);
      done = i.done ++ f n.name;
      puts = chain i.puts (subst P n.path (c.in-Ok.ensures.ok n.name.node n.node));
      rest = more_texts f i.done (most_text c.args.form chosen c.args.prefix.now c.args.base (length m.bytes) m.tree)
          n.name (to_come m c.loop-failed.walk) (to_come m c.next.new.self) n.first i.rest;
    }

pub loop-failed-smaller : goal.loop-failed-smaller
loop-failed-smaller g c =
    let m : Image = g.T.Viewed.image c.args.image.now in
    let n = c.in-Some.ensures.given in
    fewer n.name (to_come m c.loop-failed.walk) (to_come m c.next.new.self) n.first

pub returns-clause-err : goal.returns-clause-err
returns-clause-err g c =
    let m : Image = g.T.Viewed.image c.args.image.now in
    let chosen : List ℕ → Bool = g.C.Choice.chosen c.args.choice.now in
    let i = c.loop-failed.invariant in
    let rest : List ℕ = flat_map (λ n. name_macros c.args.form chosen c.args.prefix.now c.args.base n)
    (to_come m c.loop-failed.walk) in
    let P : List ℕ → Type 0 = λ v. AppendsPrefix (g.W.ByteWrite.output c.args.w.now).contents
    (g.W.ByteWrite.output c.loop-failed.w).contents v in
    subst P (header_front c.args.form chosen c.args.prefix.now c.args.base (length m.bytes) m.tree i.done rest i.rest)
    (front_first (g.W.ByteWrite.output c.args.w.now).contents (g.W.ByteWrite.output c.loop-failed.w).contents i.done
    (rest ++ last_lines c.args.form)
    (said_front (g.W.ByteWrite.output c.args.w.now) (g.W.ByteWrite.output c.loop-failed.w) c.loop-failed.failed
    i.done c.loop-failed-test.false i.puts))

pub returns-clause-rose : goal.returns-clause-rose
returns-clause-rose g c = λ e. let i = c.loop-failed.invariant in said_rose (g.W.ByteWrite.output c.args.w.now)
    (g.W.ByteWrite.output c.loop-failed.w) c.loop-failed.failed i.done c.loop-failed-test.false i.puts

pub returns-in-Err-clause-err : goal.returns-in-Err-clause-err
returns-in-Err-clause-err g c =
    let m : Image = g.T.Viewed.image c.args.image.now in
    let chosen : List ℕ → Bool = g.C.Choice.chosen c.args.choice.now in
    let i = c.loop-failed.invariant in
    let rest : List ℕ = flat_map (λ n. name_macros c.args.form chosen c.args.prefix.now c.args.base n)
    (to_come m c.loop-failed.walk) in
    let old = (g.W.ByteWrite.output c.args.w.now).contents in
    let P : List ℕ → Type 0 = λ v. AppendsPrefix old (g.W.ByteWrite.output c.put_file.new.w).contents v in
    let Q : Output → Type 0 = λ o. AppendsPrefix old o.contents i.done in
    subst P (header_front c.args.form chosen c.args.prefix.now c.args.base (length m.bytes) m.tree i.done rest i.rest)
    (front_first old (g.W.ByteWrite.output c.put_file.new.w).contents i.done (rest ++ last_lines c.args.form)
    (subst Q (sym c.in-Err.ensures.output) (front_all old (g.W.ByteWrite.output c.loop-failed.w).contents i.done
    (said_ok (g.W.ByteWrite.output c.args.w.now)
    (g.W.ByteWrite.output c.loop-failed.w) c.loop-failed.failed i.done c.loop-failed-test.true i.puts))))

pub returns-in-Err-clause-spared : goal.returns-in-Err-clause-spared
returns-in-Err-clause-spared g c = λ e. let i = c.loop-failed.invariant in
    ap (λ (o : Output). o.failures) c.in-Err.ensures.output
    ∙ said_quiet (g.W.ByteWrite.output c.args.w.now)
    (g.W.ByteWrite.output c.loop-failed.w) c.loop-failed.failed i.done c.loop-failed-test.true i.puts

pub returns-in-Err-clause-still : goal.returns-in-Err-clause-still
returns-in-Err-clause-still g c = λ e. let i = c.loop-failed.invariant in
    ap (λ (o : Output). o.failures) c.in-Err.ensures.output
    ∙ said_quiet (g.W.ByteWrite.output c.args.w.now)
    (g.W.ByteWrite.output c.loop-failed.w) c.loop-failed.failed i.done c.loop-failed-test.true i.puts

pub returns-in-Err-clause-long : goal.returns-in-Err-clause-long
returns-in-Err-clause-long g c = λ e.
    let m : Image = g.T.Viewed.image c.args.image.now in
    let i = c.loop-failed.invariant in
    let n = c.in-Some.ensures.given in
    let P : List ℕ → Type 0 = λ v. 16640 < length v in
    record {
      before = i.before;
      name = n.name;
      after = to_come m c.next.new.self;
      is = sym (ap (λ (v : List Name). i.before ++ v) (sym n.first) ∙ i.names);
      regular = c.in-Err.ensures.regular n.name.node n.node;
      long = subst P n.path (c.in-Err.ensures.long e);
    }

pub returns-in_default-clause-ok : goal.returns-in_default-clause-ok
returns-in_default-clause-ok g c =
    let m : Image = g.T.Viewed.image c.args.image.now in
    let chosen : List ℕ → Bool = g.C.Choice.chosen c.args.choice.now in
    let i = c.loop-failed.invariant in
    let f : Name → List ℕ = λ v. name_macros c.args.form chosen c.args.prefix.now c.args.base v in
    let e : i.done ≡ most_text c.args.form chosen c.args.prefix.now c.args.base (length m.bytes) m.tree =
    last_texts f i.done (most_text c.args.form chosen c.args.prefix.now c.args.base (length m.bytes) m.tree)
    (to_come m c.loop-failed.walk) c.in_default.ensures.given.before i.rest in
    let P : List ℕ → Type 0 = λ v. Appends (g.W.ByteWrite.output c.args.w.now).contents
    (g.W.ByteWrite.output c.put_end.new.w).contents v in
    end_ok c.put_end.result (λ h. subst P (header_is c.args.form chosen c.args.prefix.now c.args.base
    (length m.bytes) m.tree i.done e)
    (said_ok (g.W.ByteWrite.output c.args.w.now) (g.W.ByteWrite.output c.put_end.new.w) false
    (i.done ++ last_lines c.args.form) refl (chain i.puts h))) c.put_end.ensures.ok

pub returns-in_default-clause-err : goal.returns-in_default-clause-err
returns-in_default-clause-err g c =
    let m : Image = g.T.Viewed.image c.args.image.now in
    let chosen : List ℕ → Bool = g.C.Choice.chosen c.args.choice.now in
    let i = c.loop-failed.invariant in
    let f : Name → List ℕ = λ v. name_macros c.args.form chosen c.args.prefix.now c.args.base v in
    let e : i.done ≡ most_text c.args.form chosen c.args.prefix.now c.args.base (length m.bytes) m.tree =
    last_texts f i.done (most_text c.args.form chosen c.args.prefix.now c.args.base (length m.bytes) m.tree)
    (to_come m c.loop-failed.walk) c.in_default.ensures.given.before i.rest in
    let P : List ℕ → Type 0 = λ v. AppendsPrefix (g.W.ByteWrite.output c.args.w.now).contents
    (g.W.ByteWrite.output c.put_end.new.w).contents v in
    end_err c.put_end.result (λ h. subst P (header_is c.args.form chosen c.args.prefix.now c.args.base
    (length m.bytes) m.tree i.done e)
    (said_front (g.W.ByteWrite.output c.args.w.now) (g.W.ByteWrite.output c.put_end.new.w) true
    (i.done ++ last_lines c.args.form) refl (chain i.puts h))) c.put_end.ensures.err

pub returns-in_default-clause-quiet : goal.returns-in_default-clause-quiet
returns-in_default-clause-quiet g c =
    let i = c.loop-failed.invariant in
    end_ok c.put_end.result (λ h. said_quiet (g.W.ByteWrite.output c.args.w.now)
    (g.W.ByteWrite.output c.put_end.new.w) false (i.done ++ last_lines c.args.form) refl (chain i.puts h))
    c.put_end.ensures.ok

pub returns-in_default-clause-rose : goal.returns-in_default-clause-rose
returns-in_default-clause-rose g c =
    let i = c.loop-failed.invariant in
    end_rose c.put_end.result (λ h. said_rose (g.W.ByteWrite.output c.args.w.now)
    (g.W.ByteWrite.output c.put_end.new.w) true (i.done ++ last_lines c.args.form) refl (chain i.puts h))
    c.put_end.ensures.err
