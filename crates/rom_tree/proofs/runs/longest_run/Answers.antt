use Rattle.std.proofs.Common.{◌≡◌, ◌+◌, add-zero, ap, sym, ◌∙◌, arith, length}
use Rattle.std.specs.Prelude.{slice_index}
use Rattle.rom_tree.specs.declared.types.Stat.{Stat}
use Rattle.rom_tree.specs.Tree.{Node, places_of}
use Rattle.rom_tree.specs.Image.{Image, image_node, IsRun}
use Rattle.rom_tree.proofs.Longest.{front_more, has_some, HasSome}
use Rattle.rom_tree.proofs.runs.longest_run.Goals as goal

pub loop-len-init : goal.loop-len-init
loop-len-init g c =
    let m : Image = g.T.Viewed.image c.args.image.now in
    let h : HasSome (image_node m c.args.node.0) = has_some (image_node m c.args.node.0) c.requires in
    let x : Node = h.value in
    let r : IsRun (places_of x) c.args.at c.in-Some.first = c.in-Some.ensures.row x h.is in
    let z : c.from-size.result ≡ length (places_of x) =
    c.from-size.ensures ∙ ap (λ (s : Stat). s.size) (c.stat.ensures x h.is) in
    let l = c.lesser-len.ensures in
    let f = c.from.ensures in
    record {
      some = omega (arith, l, f, r.some, c.if-most-eq0.false);
      fits = omega (arith, l);
      within = omega (arith, l, f, r.within);
      row = λ y d k w. (c.in-Some.ensures.row y d).row k (omega (arith, l, f));
    }

pub loop-len-smaller : goal.loop-len-smaller
loop-len-smaller g c =
    let m : Image = g.T.Viewed.image c.args.image.now in
    let h : HasSome (image_node m c.args.node.0) = has_some (image_node m c.args.node.0) c.requires in
    let r = c.in-Some-run.ensures.row h.value h.is in
    let l = c.lesser-len-in-loop-len.ensures in
    omega (arith, l, r.some, c.loop-len-test.true)

pub loop-len-preserved : goal.loop-len-preserved
loop-len-preserved g c =
    let m : Image = g.T.Viewed.image c.args.image.now in
    let h : HasSome (image_node m c.args.node.0) = has_some (image_node m c.args.node.0) c.requires in
    let x : Node = h.value in
    let r : IsRun (places_of x) (c.args.at + c.loop-len.len) c.in-Some-run.run' = c.in-Some-run.ensures.row x h.is in
    let z : c.from-size.result ≡ length (places_of x) =
    c.from-size.ensures ∙ ap (λ (s : Stat). s.size) (c.stat.ensures x h.is) in
    let l = c.lesser-len-in-loop-len.ensures in
    let i = c.loop-len.invariant in
    record {
      some = omega (arith, i.some);
      fits = omega (arith, l, i.fits);
      within = omega (arith, l, r.within);
      row = λ y d. front_more (places_of y) c.args.at c.in-Some.first.place c.loop-len.len
          c.lesser-len-in-loop-len.result c.in-Some-run.run'.place (i.row y d)
          (λ k w. (c.in-Some-run.ensures.row y d).row k (omega (arith, l))) (omega arith);
    }

pub returns-then-from-len : goal.returns-then-from-len
returns-then-from-len g c = λ x d.
    let at = c.args.at + c.loop-len.len in
    let r : IsRun (places_of x) at c.in-Some-run.run' = c.in-Some-run.ensures.row x d in
    let i = c.loop-len.invariant in
    let z : c.from-size.result ≡ length (places_of x) =
    c.from-size.ensures ∙ ap (λ (s : Stat). s.size) (c.stat.ensures x d) in
    let first : slice_index (places_of x) at ≡ c.in-Some-run.run'.place =
    ap (slice_index (places_of x)) (sym (add-zero at)) ∙ r.row 0 r.some ∙ add-zero c.in-Some-run.run'.place in
    let apart : c.in-Some-run.run'.place ≡ c.in-Some.first.place + c.loop-len.len → ⊥ = (λ e. omega arith) in
    record {
      within = λ _. omega (arith, i.within, z);
      fits = i.fits;
      row = i.row x d;
      ends = λ _ _ e. apart (sym first ∙ e);
      some = λ _ _. i.some;
      small = omega (arith, i.within);
      none = λ e. absurd (omega (arith, i.some, e));
    }
