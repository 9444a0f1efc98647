use Rattle.std.proofs.Common.{◌≡◌, ℕ, ◌+◌, ◌≤◌, ap, arith, length, subst}
use Rattle.rom_tree.specs.declared.types.Stat.{Stat}
use Rattle.rom_tree.specs.Tree.{Node, places_of}
use Rattle.rom_tree.specs.Image.{Image, IsRun}
use Rattle.rom_tree.proofs.Named.{node_by}
use Rattle.image_compare.proofs.Held.{run_has, run_has_none}
use Rattle.image_compare.proofs.holder.has_place.Goals as goal

pub returns-then-covers-clause-found : goal.returns-then-covers-clause-found
returns-then-covers-clause-found g c = λ x e.
    let P : ℕ → Type 0 = λ v. IsRun (places_of x) v c.in-Some.run' in
    let r : IsRun (places_of x) c.loop-at.at c.in-Some.run' = subst P c.from.ensures (c.in-Some.ensures.row x e) in
    let h = c.if-covers.ensures.yes in
    run_has (places_of x) c.loop-at.at c.in-Some.run' r c.args.place h.0 h.1

pub overflow_add-at : goal.overflow_add-at
overflow_add-at g c =
    let m : Image = g.T.Viewed.image c.args.image.now in
    let h = node_by m c.args.node.0 c.requires in
    let x : Node = h.0 in
    let P : ℕ → Type 0 = λ v. IsRun (places_of x) v c.in-Some.run' in
    let r : IsRun (places_of x) c.loop-at.at c.in-Some.run' = subst P c.from.ensures (c.in-Some.ensures.row x h.1) in
    let z : c.stat-size.result.size ≡ length (places_of x) = ap (λ (s : Stat). s.size) (c.stat-size.ensures x h.1) in
    let w : c.loop-at.at + c.in-Some.run'.len ≤ c.stat-size.result.size = omega (arith, r.within, z) in
    let s = c.stat-size.type_inv in
    omega (arith, w, s)

pub loop-at-smaller : goal.loop-at-smaller
loop-at-smaller g c =
    let m : Image = g.T.Viewed.image c.args.image.now in
    let h = node_by m c.args.node.0 c.requires in
    let r = c.in-Some.ensures.row h.0 h.1 in
    omega (arith, r.some, c.loop-at-test.true)

pub loop-at-preserved : goal.loop-at-preserved
loop-at-preserved g c =
    let m : Image = g.T.Viewed.image c.args.image.now in
    let h = node_by m c.args.node.0 c.requires in
    let x : Node = h.0 in
    let P : ℕ → Type 0 = λ v. IsRun (places_of x) v c.in-Some.run' in
    let r : IsRun (places_of x) c.loop-at.at c.in-Some.run' = subst P c.from.ensures (c.in-Some.ensures.row x h.1) in
    let z : c.stat-size.result.size ≡ length (places_of x) = ap (λ (s : Stat). s.size) (c.stat-size.ensures x h.1) in
    record {
      within = omega (arith, r.within, z);
      none = λ y e.
          let Q : ℕ → Type 0 = λ v. IsRun (places_of y) v c.in-Some.run' in
          let s : IsRun (places_of y) c.loop-at.at c.in-Some.run' =
          subst Q c.from.ensures (c.in-Some.ensures.row y e) in
          run_has_none (places_of y) c.loop-at.at c.in-Some.run' s c.args.place c.if-covers.ensures.no
          (c.loop-at.invariant.none y e);
    }
