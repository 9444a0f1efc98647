use Rattle.std.proofs.Common.{◌≡◌, ℕ, ◌+◌, ◌≤◌, List, Some, ap, ◌∙◌, arith, length, take, drop, length-take}
use Rattle.std.proofs.Common.{length-drop}
use Rattle.rom_tree.specs.declared.types.Stat.{Stat}
use Rattle.rom_tree.specs.Tree.{Node, places_of}
use Rattle.rom_tree.specs.Image.{Image, image_node, IsRun}
use Rattle.rom_tree.proofs.Named.{node_by}
use Rattle.open_files.specs.Lending.{bytes_of}
use Rattle.open_files.proofs.Copies.{copy_step, copy_length, run_text, run_ends}
use Rattle.open_files.proofs.copied.copy_bytes.Goals as goal

pub bytes_at-requires : goal.bytes_at-requires
bytes_at-requires g c =
    let end = run_ends (g.T.Viewed.image c.args.image.now) c.args.node.0 (c.args.at + c.loop-done.done)
    c.lesser-count.result c.in-Some.run' c.requires c.in-Some.ensures.row
    (omega (arith, c.lesser-count.ensures, c.from.ensures)) in
    omega (arith, end, ap length c.bytes-bytes.ensures)

pub loop-done-smaller : goal.loop-done-smaller
loop-done-smaller g c =
    let node = node_by (g.T.Viewed.image c.args.image.now) c.args.node.0 c.requires in
    let run = c.in-Some.ensures.row node.0 node.1 in
    let i = c.loop-done.invariant in
    omega (
      arith,
      c.lesser-count.ensures,
      c.from.ensures,
      run.some,
      c.loop-done-test.true,
      c.if-done-size.true,
      i.same,
      i.fits,
    )

pub loop-done-preserved : goal.loop-done-preserved
loop-done-preserved g c =
    let m : Image = g.T.Viewed.image c.args.image.now in
    let nd = node_by m c.args.node.0 c.requires in
    let x : Node = nd.0 in
    let e : image_node m c.args.node.0 ≡ Some x = nd.1 in
    let done : ℕ = c.loop-done.done in
    let n : ℕ = c.lesser-count.result in
    let i = c.loop-done.invariant in
    let r : IsRun (places_of x) (c.args.at + done) c.in-Some.run' = c.in-Some.ensures.row x e in
    let lc = c.lesser-count.ensures in
    let lf = c.from.ensures in
    let B : List ℕ = c.bytes-bytes.result.now in
    let end = run_ends m c.args.node.0 (c.args.at + done) n c.in-Some.run' c.requires c.in-Some.ensures.row
    (omega (arith, lc, lf)) in
    let w : c.in-Some.run'.place + n ≤ length B = omega (arith, end, ap length c.bytes-bytes.ensures) in
    let old : List ℕ = c.loop-done.buf in
    let text : List ℕ = c.bytes_at.result.now in
    let new : List ℕ = c.copy_at.new.buf in
    let tl : length text ≡ n = ap length c.bytes_at.ensures
    ∙ (length-take n (drop c.in-Some.run'.place B) ∙ omega (arith, length-drop c.in-Some.run'.place B, w)) in
    let sz : c.from-size.result ≡ length (places_of x) =
    c.from-size.ensures ∙ ap (λ (s : Stat). s.size) (c.stat.ensures x e) in
    record {
      fits = omega (arith, lc, c.loop-done-test.true, c.if-done-size.true, i.same, i.fits);
      within = omega (arith, lc, lf, r.within, sz);
      same = copy_length old text new done (omega (arith, tl, lc, c.loop-done-test.true)) c.copy_at.ensures ∙ i.same;
      bytes = λ y d.
          let ry : IsRun (places_of y) (c.args.at + done) c.in-Some.run' = c.in-Some.ensures.row y d in
          let t : text ≡ bytes_of m.bytes (take n (drop (c.args.at + done) (places_of y))) =
          c.bytes_at.ensures ∙ (ap (λ (v : List ℕ). take n (drop c.in-Some.run'.place v)) c.bytes-bytes.ensures
          ∙ run_text m c.args.node.0 y (c.args.at + done) n c.in-Some.run' d ry (omega (arith, lc, lf))) in
          copy_step m.bytes (places_of y) old c.args.buf.now text new c.args.at done n (i.bytes y d)
          (omega (arith, length-drop c.args.at (places_of y), ry.within)) t tl c.copy_at.ensures;
    }
