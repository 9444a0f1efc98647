use Rattle.std.proofs.Common.{◌≡◌, ap, subst, ℕ, List, ◌++◌}
use Rattle.std.specs.List.{flat_map}
use Rattle.std.specs.Io.KnownBytes.{Appends}
use Rattle.rom_fields.specs.Written.{sink, AppendsPrefix}
use Rattle.rom_fields.proofs.Joins.{chain, said_ok, said_front, said_rose, said_quiet, front_first}
use Rattle.rom_tree.specs.Image.{Image}
use Rattle.rom_tree.specs.Names.{Name, named}
use Rattle.rom_tree.specs.Walks.{given_name, to_come}
use Rattle.rom_tree.proofs.Named.{has_node}
use Rattle.rom_tree.proofs.Listed.{fewer}
use Rattle.image_check.specs.Any.{any_view}
use Rattle.linux_misreads.specs.Misreads.{name_misreads, misreads_text, volume_misreads, Prints}
use Rattle.linux_misreads.proofs.Walked.{more_texts, last_texts}
use Rattle.linux_misreads.proofs.Printed.{printed_more}
use Rattle.linux_misreads.proofs.printing.misreads.Goals as goal

pub loop-failed-init : goal.loop-failed-init
unfolding misreads_text
loop-failed-init g c =
    let m : Image = any_view c.args.image.now in
    record {
      walk = c.new-walk.ensures.walk m c.requires;
      done = volume_misreads c.args.image.now;
      printed = c.put_volume-printed.ensures.printed;
      puts = c.put_volume-printed.ensures.puts;
      rest = ap (λ (v : List _). volume_misreads c.args.image.now ++ flat_map (name_misreads c.args.image.now) v)
          (c.new-walk.ensures.all m);
    }

pub put_misreads-requires : goal.put_misreads-requires
put_misreads-requires g c =
    let n = c.in-Some.ensures.given in
    record { node = has_node (any_view c.args.image.now) c.in-Some.node.0 n.name.node n.node; first = c.in-Ok.ensures }

pub loop-failed-preserved : goal.loop-failed-preserved
loop-failed-preserved g c =
    let m : Image = any_view c.args.image.now in
    let i = c.loop-failed.invariant in
    let n = c.in-Some.ensures.given in
    let line : Name → List ℕ = name_misreads c.args.image.now in
    let old = sink (g.W.ByteWrite.output c.loop-failed.w) c.loop-failed.failed in
    let new = sink (g.W.ByteWrite.output c.put_misreads.new.w) c.put_misreads.new.failed in
    let P : List ℕ → Type 0 = λ v. Prints old new c.loop-failed.printed c.put_misreads.new.printed
    (line (named v (given_name c.next.new.self) n.name.node)) in
    let Q : List ℕ → Type 0 =
    λ v. Prints old new c.loop-failed.printed c.put_misreads.new.printed (line (named n.name.path v n.name.node)) in
    let t : Prints old new c.loop-failed.printed c.put_misreads.new.printed (line n.name) =
    subst Q n.last (subst P n.path (c.put_misreads.ensures n.name.node n.node)) in
    record {
      walk = c.in-Some.ensures.walk;
      done = i.done ++ line n.name;
      puts = chain i.puts t.puts;
      printed = printed_more i.done (line n.name) c.loop-failed.printed c.put_misreads.new.printed i.printed t.printed;
      rest =
          more_texts line i.done (misreads_text c.args.image.now) n.name (to_come m c.loop-failed.walk)
          (to_come m c.next.new.self) n.first i.rest;
    }

pub loop-failed-smaller : goal.loop-failed-smaller
loop-failed-smaller g c =
    let m : Image = any_view c.args.image.now in
    let n = c.in-Some.ensures.given in
    fewer n.name (to_come m c.loop-failed.walk) (to_come m c.next.new.self) n.first

pub returns-clause-text : goal.returns-clause-text
returns-clause-text g c =
    let m : Image = any_view c.args.image.now in
    let i = c.loop-failed.invariant in
    let old = g.W.ByteWrite.output c.args.w.now in
    let new = g.W.ByteWrite.output c.loop-failed.w in
    let rest : List ℕ = flat_map (name_misreads c.args.image.now) (to_come m c.loop-failed.walk) in
    let P : List ℕ → Type 0 = λ v. AppendsPrefix old.contents new.contents v in (
      subst P i.rest
          (front_first old.contents new.contents i.done rest
          (said_front old new c.loop-failed.failed i.done c.loop-failed-test.false i.puts)),
      said_rose old new c.loop-failed.failed i.done c.loop-failed-test.false i.puts,
    )

pub returns-in_default-next-clause-text : goal.returns-in_default-next-clause-text
returns-in_default-next-clause-text g c =
    let m : Image = any_view c.args.image.now in
    let i = c.loop-failed.invariant in
    let old = g.W.ByteWrite.output c.args.w.now in
    let new = g.W.ByteWrite.output c.loop-failed.w in
    let e : i.done ≡ misreads_text c.args.image.now =
    last_texts (name_misreads c.args.image.now) i.done (misreads_text c.args.image.now) (to_come m c.loop-failed.walk)
    c.in_default-next.ensures.given.before i.rest in
    let P : List ℕ → Type 0 = λ v. Appends old.contents new.contents v in (
      subst P e (said_ok old new c.loop-failed.failed i.done c.loop-failed-test.true i.puts),
      said_quiet old new c.loop-failed.failed i.done c.loop-failed-test.true i.puts,
    )
