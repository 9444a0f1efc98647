use Rattle.std.proofs.Common.{false, ◌≡◌, refl, ap, subst, ℕ, [], ◌++◌, List}
use Rattle.std.specs.List.{flat_map}
use Rattle.std.specs.Io.KnownBytes.{Appends}
use Rattle.rom_fields.specs.Written.{Puts, sink, AppendsPrefix}
use Rattle.rom_fields.proofs.Joins.{chain, puts_nothing, said_ok, said_front, said_rose, said_quiet, front_first}
use Rattle.rom_tree.specs.Image.{Image}
use Rattle.rom_tree.specs.Walks.{to_come}
use Rattle.rom_tree.proofs.Named.{has_node}
use Rattle.rom_tree.proofs.Listed.{fewer}
use Rattle.rom_fields.specs.Texts.{escaped}
use Rattle.rom_tree.specs.Tree.{body_of}
use Rattle.image_info.specs.Map.{name_lines, body_lines, map_text}
use Rattle.image_info.proofs.Walked.{more_texts, last_texts}
use Rattle.image_info.proofs.mapping.map.Goals as goal

pub loop-failed-init : goal.loop-failed-init
unfolding map_text
loop-failed-init g c =
    let m : Image = g.T.Viewed.image c.args.image.now in
    record {
      walk = c.new-walk.ensures.walk m c.requires.depth;
      done = [];
      puts = puts_nothing (sink (g.W.ByteWrite.output c.args.w.now) false);
      rest = ap (flat_map (name_lines c.args.base)) (c.new-walk.ensures.all m);
    }

pub put_lines-requires : goal.put_lines-requires
put_lines-requires g c κs =
    let m : Image = g.T.Viewed.image c.args.image.now in
    let n = c.in-Some.ensures.given in
    ((refl, tt), (has_node m c.in-Some.node.0 n.name.node n.node, c.requires.fits))

pub loop-failed-preserved : goal.loop-failed-preserved
loop-failed-preserved g c =
    let m : Image = g.T.Viewed.image c.args.image.now in
    let i = c.loop-failed.invariant in
    let n = c.in-Some.ensures.given in
    let P : List ℕ → Type 0 = λ v. Puts (sink (g.W.ByteWrite.output c.loop-failed.w) c.loop-failed.failed)
    (sink (g.W.ByteWrite.output c.put_lines.new.w) c.put_lines.new.failed)
    (body_lines c.args.base (escaped v) (body_of n.name.node)) in
    record {
      walk = c.in-Some.ensures.walk;
      done = i.done ++ name_lines c.args.base n.name;
      puts = chain i.puts (subst P n.path (c.put_lines.ensures n.name.node n.node));
      rest = more_texts (name_lines c.args.base) i.done (map_text c.args.base m.tree) n.name
          (to_come m c.loop-failed.walk) (to_come m c.next.new.self) n.first i.rest;
    }

pub loop-failed-smaller : goal.loop-failed-smaller
loop-failed-smaller g c =
    let m : Image = g.T.Viewed.image c.args.image.now in
    let n = c.in-Some.ensures.given in
    fewer n.name (to_come m c.loop-failed.walk) (to_come m c.next.new.self) n.first

pub returns-clause-err : goal.returns-clause-err
returns-clause-err g c =
    let m : Image = g.T.Viewed.image c.args.image.now in
    let i = c.loop-failed.invariant in
    let P : List ℕ → Type 0 = λ v. AppendsPrefix (g.W.ByteWrite.output c.args.w.now).contents
    (g.W.ByteWrite.output c.loop-failed.w).contents v in
    subst P i.rest (front_first (g.W.ByteWrite.output c.args.w.now).contents
    (g.W.ByteWrite.output c.loop-failed.w).contents i.done
    (flat_map (name_lines c.args.base) (to_come m c.loop-failed.walk))
    (said_front (g.W.ByteWrite.output c.args.w.now)
    (g.W.ByteWrite.output c.loop-failed.w) c.loop-failed.failed i.done c.loop-failed-test.false i.puts))

pub returns-clause-count : goal.returns-clause-count
returns-clause-count g c = let i = c.loop-failed.invariant in said_rose (g.W.ByteWrite.output c.args.w.now)
    (g.W.ByteWrite.output c.loop-failed.w) c.loop-failed.failed i.done c.loop-failed-test.false i.puts

pub returns-in_default-clause-ok : goal.returns-in_default-clause-ok
returns-in_default-clause-ok g c =
    let m : Image = g.T.Viewed.image c.args.image.now in
    let i = c.loop-failed.invariant in
    let e : i.done ≡ map_text c.args.base m.tree =
    last_texts (name_lines c.args.base) i.done (map_text c.args.base m.tree)
    (to_come m c.loop-failed.walk) c.in_default.ensures.given.before i.rest in
    let P : List ℕ → Type 0 =
    λ v. Appends (g.W.ByteWrite.output c.args.w.now).contents (g.W.ByteWrite.output c.loop-failed.w).contents v in
    subst P e (said_ok (g.W.ByteWrite.output c.args.w.now)
    (g.W.ByteWrite.output c.loop-failed.w) c.loop-failed.failed i.done c.loop-failed-test.true i.puts)

pub returns-in_default-clause-count : goal.returns-in_default-clause-count
returns-in_default-clause-count g c = let i =
    c.loop-failed.invariant in said_quiet (g.W.ByteWrite.output c.args.w.now)
    (g.W.ByteWrite.output c.loop-failed.w) c.loop-failed.failed i.done c.loop-failed-test.true i.puts
