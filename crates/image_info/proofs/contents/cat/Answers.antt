use Rattle.std.proofs.Common.{◌≡◌, ℕ, List, ◌+◌, ◌≤◌, ap, sym, ◌∙◌, arith, length, subst}
use Rattle.rom_tree.specs.declared.types.Stat.{Stat}
use Rattle.rom_tree.specs.Tree.{Node, places_of}
use Rattle.rom_tree.specs.Image.{Image, IsRun}
use Rattle.rom_tree.proofs.Named.{node_by}
use Rattle.rom_tree.proofs.Rows.{row_end}
use Rattle.image_info.proofs.Copied.{run_appended, run_cut}
use Rattle.image_info.proofs.contents.cat.Goals as goal

pub bytes_from-requires : goal.bytes_from-requires
bytes_from-requires g c =
    let m : Image = g.T.Viewed.image c.args.image.now in
    let h = node_by m c.args.node.0 c.requires in
    let P : List ℕ → Type 0 = λ v. c.in-Some.run'.place + c.in-Some.run'.len ≤ length v in
    subst P (sym c.bytes-bytes.ensures)
    (row_end m c.args.node.0 h.0 c.from.result c.in-Some.run' h.1 (c.in-Some.ensures.row h.0 h.1))

pub returns-in-Err-clause-text : goal.returns-in-Err-clause-text
returns-in-Err-clause-text g c = λ x e.
    let m : Image = g.T.Viewed.image c.args.image.now in
    let P : ℕ → Type 0 = λ v. IsRun (places_of x) v c.in-Some.run' in
    let r : IsRun (places_of x) c.loop-at.at c.in-Some.run' = subst P c.from.ensures (c.in-Some.ensures.row x e) in
    run_cut m c.args.node.0 x c.loop-at.at c.in-Some.run' e r
    (g.W.ByteWrite.output c.args.w.now).contents (g.W.ByteWrite.output c.loop-at.w).contents
    (g.W.ByteWrite.output c.write_whole.new.w).contents
    c.bytes-bytes.result.now c.bytes_from.result.now c.bytes-bytes.ensures c.bytes_from.ensures
    (c.loop-at.invariant.written x e) c.in-Err.ensures.text

pub overflow_add-at : goal.overflow_add-at
overflow_add-at g c =
    let m : Image = g.T.Viewed.image c.args.image.now in
    let h = node_by m c.args.node.0 c.requires in
    let x : Node = h.0 in
    let P : ℕ → Type 0 = λ v. IsRun (places_of x) v c.in-Some.run' in
    let r : IsRun (places_of x) c.loop-at.at c.in-Some.run' = subst P c.from.ensures (c.in-Some.ensures.row x h.1) in
    let z : c.stat-size.result.size ≡ length (places_of x) = ap (λ (s : Stat). s.size) (c.stat-size.ensures x h.1) in
    let w : c.loop-at.at + c.in-Some.run'.len ≤ c.stat-size.result.size = omega (arith, r.within, z) in
    let s = c.stat-size.type_inv in
    omega (arith, w, s)

pub loop-at-smaller : goal.loop-at-smaller
loop-at-smaller g c =
    let m : Image = g.T.Viewed.image c.args.image.now in
    let h = node_by m c.args.node.0 c.requires in
    let r = c.in-Some.ensures.row h.0 h.1 in
    omega (arith, r.some, c.loop-at-test.true)

pub loop-at-preserved : goal.loop-at-preserved
loop-at-preserved g c =
    let m : Image = g.T.Viewed.image c.args.image.now in
    let h = node_by m c.args.node.0 c.requires in
    let x : Node = h.0 in
    let P : ℕ → Type 0 = λ v. IsRun (places_of x) v c.in-Some.run' in
    let r : IsRun (places_of x) c.loop-at.at c.in-Some.run' = subst P c.from.ensures (c.in-Some.ensures.row x h.1) in
    let z : c.stat-size.result.size ≡ length (places_of x) = ap (λ (s : Stat). s.size) (c.stat-size.ensures x h.1) in
    record {
      within = omega (arith, r.within, z);
      written = λ y e.
          let Q : ℕ → Type 0 = λ v. IsRun (places_of y) v c.in-Some.run' in
          let s : IsRun (places_of y) c.loop-at.at c.in-Some.run' =
          subst Q c.from.ensures (c.in-Some.ensures.row y e) in
          run_appended m c.args.node.0 y c.loop-at.at c.in-Some.run' e s
          (g.W.ByteWrite.output c.args.w.now).contents (g.W.ByteWrite.output c.loop-at.w).contents
          (g.W.ByteWrite.output c.write_whole.new.w).contents
          c.bytes-bytes.result.now c.bytes_from.result.now c.bytes-bytes.ensures c.bytes_from.ensures
          (c.loop-at.invariant.written y e) c.in-Ok.ensures.text;
      quiet = c.in-Ok.ensures.count ∙ c.loop-at.invariant.quiet;
    }
