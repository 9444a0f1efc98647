use Rattle.std.proofs.Common.{◌≡◌, ap, sym, ◌∙◌, subst, ℕ, List, [], ◌++◌, IfOk}
use Rattle.std.specs.List.{flat_map}
use Rattle.std.specs.Io.KnownBytes.{Appends}
use Rattle.rom_fields.specs.Texts.{escaped}
use Rattle.rom_fields.specs.Written.{sink, AppendsPrefix, Puts, WritesText}
use Rattle.rom_fields.proofs.Joins.{chain, said_ok, said_front, said_rose, said_quiet, front_first, puts_nothing}
use Rattle.rom_tree.specs.Image.{Image}
use Rattle.rom_tree.specs.Names.{Name, names}
use Rattle.rom_tree.specs.Walks.{to_come}
use Rattle.rom_tree.proofs.Named.{has_node}
use Rattle.rom_tree.proofs.Listed.{fewer}
use Rattle.image_check.specs.Any.{any_view}
use Rattle.program_report.specs.declared.tally.Tally.{Tally}
use Rattle.program_report.specs.Found.{found_in}
use Rattle.program_report.specs.Lines.{name_lines, node_lines, nothing, noted_if, programs_text, tally_from, tally_of}
use Rattle.program_report.specs.Lines.{tally_warns}
use Rattle.program_report.specs.Lines.{total_line, warns}
use Rattle.program_report.proofs.Walked.{more_texts, last_texts, writes_after, counts_after}
use Rattle.program_report.proofs.report.write_programs.Goals as goal

pub loop-failed-init : goal.loop-failed-init
unfolding tally_of
loop-failed-init g c =
    let m : Image = any_view c.args.image.now in
    record {
      findings = c.new-findings.ensures;
      walk = c.new-walk.ensures.walk m c.requires.shallow;
      done = [];
      puts = puts_nothing _;
      rest = ap (flat_map (name_lines c.args.image.now c.args.question.now)) (c.new-walk.ensures.all m);
      total = ap (tally_from c.args.image.now c.args.question.now nothing) (c.new-walk.ensures.all m);
    }

pub put_name-requires : goal.put_name-requires
put_name-requires g c =
    let n = c.in-Some.ensures.given in
    record {
      node = has_node (any_view c.args.image.now) c.in-Some.node.0 n.name.node n.node;
      fits = c.requires.fits;
      found = c.of-found.ensures.is;
      within = c.of-found.ensures.within;
    }

pub loop-failed-preserved : goal.loop-failed-preserved
loop-failed-preserved g c =
    let a = c.args.image.now in
    let q = c.args.question.now in
    let m : Image = any_view a in
    let i = c.loop-failed.invariant in
    let n = c.in-Some.ensures.given in
    let line : Name → List ℕ = name_lines a q in
    let old = sink (g.W.ByteWrite.output c.loop-failed.w) c.loop-failed.failed in
    let new = sink (g.W.ByteWrite.output c.put_name.new.w) c.put_name.new.failed in
    let P : List ℕ → Type 0 = λ v. Puts old new (node_lines a q (escaped v) n.name.node (found_in a q n.name.node)) in
    let t : Puts old new (line n.name) = subst P n.path (c.put_name.ensures n.name.node n.node) in
    record {
      findings = c.of-found.ensures.known;
      walk = c.in-Some.ensures.walk;
      done = i.done ++ line n.name;
      puts = chain i.puts t;
      rest =
          more_texts line i.done (flat_map line (names m.tree)) n.name (to_come m c.loop-failed.walk)
          (to_come m c.next.new.self) n.first i.rest;
      total =
          ap (λ (v : Tally). tally_from a q v (to_come m c.next.new.self)) (c.noted_if-tally.ensures
          ∙ ap (noted_if c.loop-failed.tally) (c.of-found.ensures.is n.name.node n.node))
          ∙ (sym (ap (tally_from a q c.loop-failed.tally) n.first) ∙ i.total);
    }

pub loop-failed-smaller : goal.loop-failed-smaller
loop-failed-smaller g c =
    let m : Image = any_view c.args.image.now in
    let n = c.in-Some.ensures.given in
    fewer n.name (to_come m c.loop-failed.walk) (to_come m c.next.new.self) n.first

pub returns-clause-text : goal.returns-clause-text
unfolding programs_text
returns-clause-text g c =
    let a = c.args.image.now in
    let q = c.args.question.now in
    let m : Image = any_view a in
    let i = c.loop-failed.invariant in
    let old = g.W.ByteWrite.output c.args.w.now in
    let new = g.W.ByteWrite.output c.loop-failed.w in
    let rest : List ℕ = flat_map (name_lines a q) (to_come m c.loop-failed.walk) in
    let P : List ℕ → Type 0 = λ v. AppendsPrefix old.contents new.contents v in
    front_first old.contents new.contents (flat_map (name_lines a q) (names m.tree)) (total_line (tally_of a q))
    (subst P i.rest
    (front_first old.contents new.contents i.done rest
    (said_front old new c.loop-failed.failed i.done c.loop-failed-test.false i.puts)))

pub returns-clause-count : goal.returns-clause-count
returns-clause-count g c =
    let i = c.loop-failed.invariant in
    said_rose (g.W.ByteWrite.output c.args.w.now) (g.W.ByteWrite.output c.loop-failed.w) c.loop-failed.failed i.done
    c.loop-failed-test.false i.puts

-- nothing is to come
pub returns-in_default-clause-text : goal.returns-in_default-clause-text
unfolding programs_text
returns-in_default-clause-text g c =
    let a = c.args.image.now in
    let q = c.args.question.now in
    let m : Image = any_view a in
    let i = c.loop-failed.invariant in
    let old = g.W.ByteWrite.output c.args.w.now in
    let mid = g.W.ByteWrite.output c.loop-failed.w in
    let new = g.W.ByteWrite.output c.finish.new.w in
    let all : List ℕ = flat_map (name_lines a q) (names m.tree) in
    let o = c.in_default.ensures.given.before in
    let e : i.done ≡ all = last_texts (name_lines a q) i.done all (to_come m c.loop-failed.walk) o i.rest in
    let f : c.loop-failed.tally ≡ tally_of a q = sym (ap (tally_from a q c.loop-failed.tally) o) ∙ i.total in
    let P : List ℕ → Type 0 = λ v. Appends old.contents mid.contents v in
    let Q : Tally → Type 0 = λ v. WritesText mid.contents new.contents c.finish.result (total_line v) in
    writes_after old.contents mid.contents new.contents all (total_line (tally_of a q)) c.finish.result
    (subst P e (said_ok old mid c.loop-failed.failed i.done c.loop-failed-test.true i.puts))
    (subst Q f c.finish.ensures.text)

pub returns-in_default-clause-count : goal.returns-in_default-clause-count
returns-in_default-clause-count g c =
    let i = c.loop-failed.invariant in
    let old = g.W.ByteWrite.output c.args.w.now in
    let mid = g.W.ByteWrite.output c.loop-failed.w in
    let new = g.W.ByteWrite.output c.finish.new.w in
    counts_after old.failures mid.failures new.failures c.finish.result
    (said_quiet old mid c.loop-failed.failed i.done c.loop-failed-test.true i.puts) c.finish.ensures.count

pub returns-in_default-clause-warns : goal.returns-in_default-clause-warns
unfolding warns
returns-in_default-clause-warns g c =
    let a = c.args.image.now in
    let q = c.args.question.now in
    let i = c.loop-failed.invariant in
    let f : c.loop-failed.tally ≡ tally_of a q =
    sym (ap (tally_from a q c.loop-failed.tally) c.in_default.ensures.given.before) ∙ i.total in
    let Q : Tally → Type 0 = λ v. IfOk c.finish.result (λ b. b ≡ tally_warns v) in
    subst Q f c.finish.ensures.warns
