use Rattle.std.proofs.Common.{ℕ, List, length, take, drop, ap, ◌∙◌, arith}
use Rattle.rom_tree.specs.Image.{Image}
use Rattle.rom_tree.specs.Tree.{places_of}
use Rattle.rom_tree.proofs.Fronts.{front_is, front_within, sized}
use Rattle.rom_tree.proofs.Named.{node_by}
use Rattle.rom_tree.proofs.runs.front_bytes.Goals as goal

pub overflow_cast-len : goal.overflow_cast-len
overflow_cast-len g c =
    let m : Image = g.T.Viewed.image c.args.image.now in
    let h = node_by m c.args.node.0 c.requires in
    let f = (c.longest_run-place.ensures h.0 h.1).fits in
    let s = c.stat-size.type_inv in
    let e = c.from.ensures in
    omega (arith, s, e, f)

pub bytes_from-requires : goal.bytes_from-requires
bytes_from-requires g c =
    let m : Image = g.T.Viewed.image c.args.image.now in
    let h = node_by m c.args.node.0 c.requires in
    let w = front_within m c.args.node.0 h.0 c.longest_run-place.result.0 c.longest_run-place.result.1 h.1
    (sized h.0 c.stat-size.result c.from.result c.longest_run-place.result.0 c.longest_run-place.result.1
    (c.stat-size.ensures h.0 h.1) c.from.ensures (c.longest_run-place.ensures h.0 h.1)) in
    let b = ap length c.bytes.ensures in
    omega (arith, w, b)

pub returns : goal.returns
returns g c = λ x e.
    let m : Image = g.T.Viewed.image c.args.image.now in
    let place = c.longest_run-place.result.0 in
    let len = c.longest_run-place.result.1 in
    c.bytes_from.ensures
    ∙ (ap (λ (b : List ℕ). take len (drop place b)) c.bytes.ensures
    ∙ front_is m.bytes (places_of x) place len
    (sized x c.stat-size.result c.from.result place len (c.stat-size.ensures x e) c.from.ensures
    (c.longest_run-place.ensures x e)))
