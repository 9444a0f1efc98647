use Rattle.std.proofs.Common.{◌+◌, ◌≤◌, arith, length}
use Rattle.rom_fields.specs.Written.{sink}
use Rattle.rom_tree.specs.Tree.{places_of}
use Rattle.rom_tree.specs.Image.{Image}
use Rattle.rom_tree.proofs.Named.{node_by}
use Rattle.rom_tree.proofs.Rows.{row_end}
use Rattle.rom_fields.specs.Texts.{escaped}
use Rattle.rom_tree.specs.Walks.{given_path}
use Rattle.image_info.specs.Runs.{IsWholeRun}
use Rattle.image_info.proofs.Known.{known_none, known_more, known_all}
use Rattle.image_info.proofs.map_line.put_runs.Goals as goal

pub loop-run-init : goal.loop-run-init
loop-run-init g c = λ x e. known_none (sink (g.W.ByteWrite.output c.args.w.now) c.args.failed.now) c.args.base
    (escaped (given_path c.args.walk.now)) (places_of x)

pub put_run-requires : goal.put_run-requires
put_run-requires g c =
    let m : Image = g.T.Viewed.image c.args.image.now in
    let h = node_by m c.args.n.0 c.requires.node in
    let r : IsWholeRun (places_of h.0) c.loop-run.at c.in-Some.run' = c.in-Some.ensures h.0 h.1 in
    let w : c.in-Some.run'.place + c.in-Some.run'.len ≤ length m.bytes =
    row_end m c.args.n.0 h.0 c.loop-run.at c.in-Some.run' h.1 r.run in
    omega (arith, w, r.run.some, c.requires.fits)

pub overflow_add-at : goal.overflow_add-at
overflow_add-at g c =
    let m : Image = g.T.Viewed.image c.args.image.now in
    let h = node_by m c.args.n.0 c.requires.node in
    let r : IsWholeRun (places_of h.0) c.loop-run.at c.in-Some.run' = c.in-Some.ensures h.0 h.1 in
    omega (arith, r.small)

pub loop-run-smaller : goal.loop-run-smaller
loop-run-smaller g c =
    let m : Image = g.T.Viewed.image c.args.image.now in
    let h = node_by m c.args.n.0 c.requires.node in
    let r : IsWholeRun (places_of h.0) c.loop-run.at c.in-Some.run' = c.in-Some.ensures h.0 h.1 in
    omega (arith, r.small, r.run.some)

pub loop-run-preserved : goal.loop-run-preserved
loop-run-preserved g c = λ x e.
    known_more (sink (g.W.ByteWrite.output c.args.w.now) c.args.failed.now)
    (sink (g.W.ByteWrite.output c.loop-run.w) c.loop-run.failed)
    (sink (g.W.ByteWrite.output c.put_run.new.w) c.put_run.new.failed)
    c.args.base (escaped (given_path c.args.walk.now)) (places_of x) c.loop-run.at c.in-Some.run'
    (c.in-Some.ensures x e) c.put_run.ensures (c.loop-run.invariant x e)

pub returns : goal.returns
returns g c = λ x e.
    known_all (sink (g.W.ByteWrite.output c.args.w.now) c.args.failed.now)
    (sink (g.W.ByteWrite.output c.loop-run.w) c.loop-run.failed)
    c.args.base (escaped (given_path c.args.walk.now)) (places_of x) c.loop-run.at (c.in_default.ensures x e)
    (c.loop-run.invariant x e)
