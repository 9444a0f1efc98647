use Rattle.std.proofs.Common.{◌≡◌, ℕ, ◌+◌, ◌≤◌, ap, arith, length, subst}
use Rattle.rom_tree.specs.declared.types.Stat.{Stat}
use Rattle.rom_tree.specs.Tree.{places_of}
use Rattle.rom_tree.specs.Image.{Image, IsRun, contents_of}
use Rattle.rom_tree.proofs.Named.{node_by}
use Rattle.image_compare.proofs.Compared.{part_fits, part_is, part_differs, part_same, all_same}
use Rattle.image_compare.proofs.Printed.{size_of}
use Rattle.image_compare.proofs.contents.have_same_bytes.Goals as goal

pub is_same_part-requires : goal.is_same_part-requires
is_same_part-requires g c =
    let m : Image = g.T.Viewed.image c.args.old.now in
    let k : Image = g.T.Viewed.image c.args.new.now in
    let h = node_by m c.args.x.0 c.requires.old in
    let i = node_by k c.args.y.0 c.requires.new in
    let len = c.min-len.ensures in
    record {
      one = part_fits m c.args.x.0 h.0 c.from.result c.in-Some.r c.min-len.result h.1 (c.in-Some.ensures.row h.0 h.1)
          (omega (arith, len)) c.bytes-old_bytes.result.now c.bytes-old_bytes.ensures;
      other = part_fits k c.args.y.0 i.0 c.from-in-loop-at.result c.in-Some-run.s c.min-len.result i.1
          (c.in-Some-run.ensures.row i.0 i.1) (omega (arith, len)) c.bytes-new_bytes.result.now
          c.bytes-new_bytes.ensures;
    }

pub returns-then-not-is_same_part : goal.returns-then-not-is_same_part
returns-then-not-is_same_part g c = λ p q d e.
    let m : Image = g.T.Viewed.image c.args.old.now in
    let k : Image = g.T.Viewed.image c.args.new.now in
    let len = c.min-len.ensures in
    let P : ℕ → Type 0 = λ v. IsRun (places_of p) v c.in-Some.r in
    let r : IsRun (places_of p) c.loop-at.at c.in-Some.r = subst P c.from.ensures (c.in-Some.ensures.row p d) in
    let Q : ℕ → Type 0 = λ v. IsRun (places_of q) v c.in-Some-run.s in
    let s : IsRun (places_of q) c.loop-at.at c.in-Some-run.s =
    subst Q c.from-in-loop-at.ensures (c.in-Some-run.ensures.row q e) in
    part_differs (contents_of m.bytes p) (contents_of k.bytes q) _ _ c.loop-at.at c.min-len.result
    (part_is m c.args.x.0 p c.loop-at.at c.in-Some.r c.min-len.result d r (omega (arith, len))
    c.bytes-old_bytes.result.now c.bytes-old_bytes.ensures)
    (part_is k c.args.y.0 q c.loop-at.at c.in-Some-run.s c.min-len.result e s (omega (arith, len))
    c.bytes-new_bytes.result.now c.bytes-new_bytes.ensures)
    c.if-not-is_same_part.ensures

pub overflow_add-at : goal.overflow_add-at
overflow_add-at g c =
    let m : Image = g.T.Viewed.image c.args.old.now in
    let h = node_by m c.args.x.0 c.requires.old in
    let P : ℕ → Type 0 = λ v. IsRun (places_of h.0) v c.in-Some.r in
    let r : IsRun (places_of h.0) c.loop-at.at c.in-Some.r = subst P c.from.ensures (c.in-Some.ensures.row h.0 h.1) in
    let z : c.stat-size.result.size ≡ length (places_of h.0) =
    ap (λ (s : Stat). s.size) (c.stat-size.ensures h.0 h.1) in
    let s = c.stat-size.type_inv in
    let len = c.min-len.ensures in
    let w : c.loop-at.at + c.min-len.result ≤ c.stat-size.result.size = omega (arith, r.within, z, len) in
    omega (arith, w, s)

pub loop-at-smaller : goal.loop-at-smaller
loop-at-smaller g c =
    let m : Image = g.T.Viewed.image c.args.old.now in
    let k : Image = g.T.Viewed.image c.args.new.now in
    let h = node_by m c.args.x.0 c.requires.old in
    let i = node_by k c.args.y.0 c.requires.new in
    let r = c.in-Some.ensures.row h.0 h.1 in
    let s = c.in-Some-run.ensures.row i.0 i.1 in
    let len = c.min-len.ensures in
    omega (arith, r.some, s.some, len, c.loop-at-test.true)

pub loop-at-preserved : goal.loop-at-preserved
loop-at-preserved g c =
    let m : Image = g.T.Viewed.image c.args.old.now in
    let k : Image = g.T.Viewed.image c.args.new.now in
    let h = node_by m c.args.x.0 c.requires.old in
    let len = c.min-len.ensures in
    let O : ℕ → Type 0 = λ v. IsRun (places_of h.0) v c.in-Some.r in
    let o : IsRun (places_of h.0) c.loop-at.at c.in-Some.r = subst O c.from.ensures (c.in-Some.ensures.row h.0 h.1) in
    let z : c.stat-size.result.size ≡ length (places_of h.0) =
    ap (λ (s : Stat). s.size) (c.stat-size.ensures h.0 h.1) in
    record {
      within = omega (arith, o.within, z, len);
      same = λ p q d e.
          let P : ℕ → Type 0 = λ v. IsRun (places_of p) v c.in-Some.r in
          let r : IsRun (places_of p) c.loop-at.at c.in-Some.r = subst P c.from.ensures (c.in-Some.ensures.row p d) in
          let Q : ℕ → Type 0 = λ v. IsRun (places_of q) v c.in-Some-run.s in
          let s : IsRun (places_of q) c.loop-at.at c.in-Some-run.s =
          subst Q c.from-in-loop-at.ensures (c.in-Some-run.ensures.row q e) in
          part_same (contents_of m.bytes p) (contents_of k.bytes q) _ _ c.loop-at.at c.min-len.result
          (part_is m c.args.x.0 p c.loop-at.at c.in-Some.r c.min-len.result d r (omega (arith, len))
          c.bytes-old_bytes.result.now c.bytes-old_bytes.ensures)
          (part_is k c.args.y.0 q c.loop-at.at c.in-Some-run.s c.min-len.result e s (omega (arith, len))
          c.bytes-new_bytes.result.now c.bytes-new_bytes.ensures)
          c.if-not-is_same_part.ensures (c.loop-at.invariant.same p q d e);
    }

pub returns : goal.returns
returns g c = λ p q d e.
    let m : Image = g.T.Viewed.image c.args.old.now in
    let k : Image = g.T.Viewed.image c.args.new.now in
    let z = size_of p m.bytes c.stat-size.result (c.stat-size.ensures p d) in
    let y = size_of q k.bytes c.stat.result (c.stat.ensures q e) in
    let t = c.if-stat-size.false in
    let f = c.loop-at-test.false in
    all_same (contents_of m.bytes p) (contents_of k.bytes q) c.loop-at.at (omega (arith, z, f)) (omega (arith, y, t, f))
    (c.loop-at.invariant.same p q d e)
