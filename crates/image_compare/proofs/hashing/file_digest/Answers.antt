use Rattle.std.proofs.Common.{◌≡◌, ℕ, List, ◌+◌, ◌≤◌, take, ap, sym, arith, length, subst}
use Rattle.sha2.specs.Hashers.{Holds256}
use Rattle.rom_tree.specs.declared.types.Stat.{Stat}
use Rattle.rom_tree.specs.Tree.{Node, places_of}
use Rattle.rom_tree.specs.Image.{Image, IsRun, contents_of}
use Rattle.rom_tree.proofs.Named.{node_by}
use Rattle.rom_tree.proofs.Rows.{row_end}
use Rattle.image_compare.proofs.Hashed.{front_grows}
use Rattle.image_compare.proofs.hashing.file_digest.Goals as goal

pub bytes_from-requires : goal.bytes_from-requires
bytes_from-requires g c =
    let m : Image = g.T.Viewed.image c.args.image.now in
    let h = node_by m c.args.node.0 c.requires in
    let P : List ℕ → Type 0 = λ v. c.in-Some.run'.place + c.in-Some.run'.len ≤ length v in
    subst P (sym c.bytes-bytes.ensures)
    (row_end m c.args.node.0 h.0 c.from.result c.in-Some.run' h.1 (c.in-Some.ensures.row h.0 h.1))

pub overflow_add-at : goal.overflow_add-at
overflow_add-at g c =
    let m : Image = g.T.Viewed.image c.args.image.now in
    let h = node_by m c.args.node.0 c.requires in
    let x : Node = h.0 in
    let P : ℕ → Type 0 = λ v. IsRun (places_of x) v c.in-Some.run' in
    let r : IsRun (places_of x) c.loop-at.at c.in-Some.run' = subst P c.from.ensures (c.in-Some.ensures.row x h.1) in
    let z : c.stat-size.result.size ≡ length (places_of x) = ap (λ (s : Stat). s.size) (c.stat-size.ensures x h.1) in
    let w : c.loop-at.at + c.in-Some.run'.len ≤ c.stat-size.result.size = omega (arith, r.within, z) in
    let s = c.stat-size.type_inv in
    omega (arith, w, s)

pub loop-at-smaller : goal.loop-at-smaller
loop-at-smaller g c =
    let m : Image = g.T.Viewed.image c.args.image.now in
    let h = node_by m c.args.node.0 c.requires in
    let r = c.in-Some.ensures.row h.0 h.1 in
    omega (arith, r.some, c.loop-at-test.true)

pub loop-at-preserved : goal.loop-at-preserved
loop-at-preserved g c =
    let m : Image = g.T.Viewed.image c.args.image.now in
    let h = node_by m c.args.node.0 c.requires in
    let x : Node = h.0 in
    let P : ℕ → Type 0 = λ v. IsRun (places_of x) v c.in-Some.run' in
    let r : IsRun (places_of x) c.loop-at.at c.in-Some.run' = subst P c.from.ensures (c.in-Some.ensures.row x h.1) in
    let z : c.stat-size.result.size ≡ length (places_of x) = ap (λ (s : Stat). s.size) (c.stat-size.ensures x h.1) in
    record {
      within = omega (arith, r.within, z);
      held = λ y e.
          let Q : ℕ → Type 0 = λ v. IsRun (places_of y) v c.in-Some.run' in
          let s : IsRun (places_of y) c.loop-at.at c.in-Some.run' =
          subst Q c.from.ensures (c.in-Some.ensures.row y e) in
          let H : List ℕ → Type 0 = λ v. Holds256 c.update.new.self v in
          subst H (front_grows m c.args.node.0 y c.loop-at.at c.in-Some.run' e s
          c.bytes-bytes.result.now c.bytes_from.result.now c.bytes-bytes.ensures c.bytes_from.ensures)
          (c.update.ensures (take c.loop-at.at (contents_of m.bytes y)) (c.loop-at.invariant.held y e));
    }
