use Rattle.std.proofs.Common.{◌≡◌, ℕ, ap, subst, arith, length}
use Rattle.rom_tree.specs.declared.types.Stat.{Stat}
use Rattle.rom_tree.specs.Tree.{Node, places_of}
use Rattle.rom_tree.specs.Image.{Image}
use Rattle.rom_tree.specs.Runs.{IsLongest}
use Rattle.rom_tree.proofs.Named.{node_by}
use Rattle.image_info.proofs.runs.whole_run.Goals as goal

module _ (at size place len : ℕ) (far most : ℕ) (f : far ≡ at) (s : most ≡ size) where
  of_u32 : (x : Node) → IsLongest (places_of x) far most place len → IsLongest (places_of x) at size place len
  of_u32 x h = let P : ℕ → Type 0 = λ v. IsLongest (places_of x) v most place len in let Q : ℕ → Type 0 =
      λ v. IsLongest (places_of x) at v place len in subst Q s (subst P f h)

pub overflow_cast-result : goal.overflow_cast-result
overflow_cast-result g c =
    let m : Image = g.T.Viewed.image c.args.image.now in
    let h = node_by m c.args.node.0 c.requires in
    let r = of_u32 c.args.at c.stat-size.result.size c.longest_run-place.result.0 c.longest_run-place.result.1 _ _
    c.from.ensures c.from-2.ensures h.0 (c.longest_run-place.ensures h.0 h.1) in
    let s = c.stat-size.type_inv in
    omega (arith, s, r.fits)

pub returns : goal.returns
returns g c = λ x e.
    let p : ℕ = c.longest_run-place.result.0 in
    let n : ℕ = c.longest_run-place.result.1 in
    let size : ℕ = c.stat-size.result.size in
    let r = of_u32 c.args.at size p n _ _ c.from.ensures c.from-2.ensures x (c.longest_run-place.ensures x e) in
    let z : size ≡ length (places_of x) = ap (λ (s : Stat). s.size) (c.stat-size.ensures x e) in
    let s = c.stat-size.type_inv in
    let w = r.within (omega (arith, c.if-len-eq0.false)) in
    record {
      run = record { some = omega (arith, c.if-len-eq0.false); within = w; row = r.row };
      ends = λ l. r.ends (omega (arith, z, l)) l;
      small = omega (arith, z, s, w);
    }
