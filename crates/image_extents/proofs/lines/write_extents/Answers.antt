use Rattle.std.proofs.Common.{◌≡◌, ◌∙◌, ◌+◌, ℕ, List, ap, sym, subst, get_or, take, length, false, Option, None}
use Rattle.std.proofs.Common.{arith, max}
use Rattle.std.proofs.lemmas.List.{take_more}
use Rattle.rom_fields.specs.Written.{Puts, sink}
use Rattle.rom_fields.proofs.Joins.{chain, said_ok, said_front, said_rose, said_quiet}
use Rattle.image_extents.specs.declared.extent.Extent.{Extent}
use Rattle.image_extents.specs.declared.extent.Kind.TheVariants.{Super}
use Rattle.image_extents.specs.declared.extent.Extents.{Extents}
use Rattle.image_extents.specs.Lines.{between, extents_text, lines_from, piece, reach_after}
use Rattle.image_extents.proofs.Texts.{before_after, before_push, lines_push, reach_push, taken_all}
use Rattle.image_extents.proofs.lines.write_extents.Goals as goal

abbrev none : Extent
none = record { kind = Super; start = 0; len = 0; offset = 0; owner = 0 }

pub loop-x-preserved : goal.loop-x-preserved
loop-x-preserved g c =
    let e : Extents = c.args.found.now in
    let i : ℕ = c.loop-x.x-index in
    let v : List Extent = c.deref-x-items.result.now in
    let is : v ≡ e.extents.items = c.deref-x-items.ensures.value in
    let x : Extent = get_or v i none in
    let m = take_more v i none c.loop-x-test.true in
    let L : List Extent → List ℕ = λ u. lines_from c.args.base e 0 None u in
    let T : List ℕ → Type 0 = λ t. Puts (sink (g.W.ByteWrite.output c.args.w.now) false)
    (sink (g.W.ByteWrite.output c.put_piece.new.w) c.put_piece.new.failed) t in
    let I : List Extent → Type 0 = λ u. Puts (sink (g.W.ByteWrite.output c.args.w.now) false)
    (sink (g.W.ByteWrite.output c.loop-x.w) c.loop-x.failed) (L (take i u)) in
    let before : I v = subst I (sym is) c.loop-x.invariant.puts in
    let r : c.loop-x.reach ≡ reach_after 0 (take i v) =
    c.loop-x.invariant.reach ∙ ap (λ (u : List Extent). reach_after 0 (take i u)) (sym is) in
    let b : c.loop-x.before ≡ before_after None (take i v) =
    c.loop-x.invariant.before ∙ ap (λ (u : List Extent). before_after None (take i u)) (sym is) in
    let A : ℕ → Option ℕ → Type 0 = λ a o. Puts (sink (g.W.ByteWrite.output c.loop-x.w) c.loop-x.failed)
    (sink (g.W.ByteWrite.output c.put_piece.new.w) c.put_piece.new.failed) (piece c.args.base e a o x) in
    let rest : A (reach_after 0 (take i v)) (before_after None (take i v)) =
    subst (λ a. A a (before_after None (take i v))) r (subst (λ o. A c.loop-x.reach o) b c.put_piece.ensures) in
    let t = sym (ap (λ (u : List Extent). L (take (i + 1) u)) (sym is) ∙ ap L m
    ∙ lines_push c.args.base e 0 None (take i v) x) in
    let q : reach_after 0 (take (i + 1) e.extents.items) ≡ max (reach_after 0 (take i v)) (x.start + x.len) =
    ap (λ (u : List Extent). reach_after 0 (take (i + 1) u)) (sym is) ∙ ap (reach_after 0) m
    ∙ reach_push 0 (take i v) x in
    let n = c.end.ensures in
    let y = c.max-reach.ensures in
    record {
      puts = subst T t (chain before rest);
      reach = grind (arith, q, n, y, r);
      before = sym (ap (λ (u : List Extent). before_after None (take (i + 1) u)) (sym is) ∙ ap (before_after None) m
          ∙ before_push None (take i v) x);
    }

pub returns-then-failed-clause-text : goal.returns-then-failed-clause-text
unfolding extents_text
returns-then-failed-clause-text g c =
    let a = taken_all c.args.found.now.extents.items c.deref-x-items.result.now c.loop-x.x-index
    c.deref-x-items.ensures.value c.loop-x-test.false in
    let I : List Extent → Type 0 = λ u. Puts (sink (g.W.ByteWrite.output c.args.w.now) false)
    (sink (g.W.ByteWrite.output c.loop-x.w) c.loop-x.failed) (lines_from c.args.base c.args.found.now 0 None u) in
    let B : ℕ → Type 0 = λ b. Puts (sink (g.W.ByteWrite.output c.loop-x.w) c.loop-x.failed)
    (sink (g.W.ByteWrite.output c.put_between.new.w) c.put_between.new.failed)
    (between c.args.base c.args.found.now.bytes.now b (length c.args.found.now.bytes.now)) in
    let r = c.loop-x.invariant.reach ∙ ap (reach_after 0) a in
    said_front _ _ _ _ c.if-failed.true
    (chain (subst I a c.loop-x.invariant.puts) (chain (subst B r c.put_between.ensures) c.put_beyond.ensures))

pub returns-then-failed-clause-count : goal.returns-then-failed-clause-count
returns-then-failed-clause-count g c =
    said_rose _ _ _ _ c.if-failed.true
    (chain c.loop-x.invariant.puts (chain c.put_between.ensures c.put_beyond.ensures))

pub returns-else-failed-clause-text : goal.returns-else-failed-clause-text
unfolding extents_text
returns-else-failed-clause-text g c =
    let a = taken_all c.args.found.now.extents.items c.deref-x-items.result.now c.loop-x.x-index
    c.deref-x-items.ensures.value c.loop-x-test.false in
    let I : List Extent → Type 0 = λ u. Puts (sink (g.W.ByteWrite.output c.args.w.now) false)
    (sink (g.W.ByteWrite.output c.loop-x.w) c.loop-x.failed) (lines_from c.args.base c.args.found.now 0 None u) in
    let B : ℕ → Type 0 = λ b. Puts (sink (g.W.ByteWrite.output c.loop-x.w) c.loop-x.failed)
    (sink (g.W.ByteWrite.output c.put_between.new.w) c.put_between.new.failed)
    (between c.args.base c.args.found.now.bytes.now b (length c.args.found.now.bytes.now)) in
    let r = c.loop-x.invariant.reach ∙ ap (reach_after 0) a in
    said_ok _ _ _ _ c.if-failed.false
    (chain (subst I a c.loop-x.invariant.puts) (chain (subst B r c.put_between.ensures) c.put_beyond.ensures))

pub returns-else-failed-clause-count : goal.returns-else-failed-clause-count
returns-else-failed-clause-count g c =
    said_quiet _ _ _ _ c.if-failed.false
    (chain c.loop-x.invariant.puts (chain c.put_between.ensures c.put_beyond.ensures))
