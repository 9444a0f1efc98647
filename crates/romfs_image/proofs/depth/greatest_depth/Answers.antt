use Rattle.std.proofs.Common.{◌≡◌, ◌+◌, ◌<◌, ◌≤◌, ℕ, false, arith, sym, subst, ◌∙◌, take, get_or, List, [], ◌∷◌, ◌++◌}
use Rattle.std.proofs.Common.{length-append, ◌⊎◌, inl, inr}
use Rattle.std.proofs.lemmas.List.{take_more, take_all, get_or_append_left}
use Rattle.std.proofs.lemmas.List.Elements.{All-push, All-weaker}
use Rattle.std.proofs.lemmas.List.Quantifiers.{Any-push}
use Rattle.std.specs.List.{All, Any}
use Rattle.record_forest.specs.declared.reference.Row.{Row}
use Rattle.romfs_format.specs.Record.{name_of}
use Rattle.rom_tree.specs.Dots.{is_dots}
use Rattle.record_forest.proofs.Sweeps.{blank}
use Rattle.romfs_image.proofs.depth.greatest_depth.Goals as goal
use Rattle.romfs_image.proofs.depth.greatest_depth.Goals.{then-is_too_deep, else-is_too_deep}

-- no entry among the rows is deeper
abbrev Bounds : List ℕ → ℕ → Row → Type 0
Bounds b n x = is_dots (name_of b x.offset) ≡ false → x.depth ≤ n

abbrev Reaches : List ℕ → ℕ → Row → Type 0
Reaches b n x = (is_dots (name_of b x.offset) ≡ false) × (x.depth ≡ n)

record Deepest (b : List ℕ) (xs : List Row) (n : ℕ) : Type 0 where
  bound : All (Bounds b n) xs
  reached : (n ≡ 0) ⊎ Any (Reaches b n) xs

any_left : (P : Row → Type 0) (xs ys : List Row) → Any P xs → Any P (xs ++ ys)
any_left P xs ys a = (a.0, a.1, rw length-append (omega arith), get_or_append_left xs ys a.1 a.0 a.2 ∙ a.3, a.4)

higher : (b : List ℕ) (xs : List Row) (x : Row) (n m : ℕ) → Deepest b xs n → m ≡ x.depth
    → is_dots (name_of b x.offset) ≡ false → n < x.depth → Deepest b (xs ++ x ∷ []) m
higher b xs x n m d e t l = record {
  bound = All-push (Bounds b m) xs x (All-weaker (Bounds b n) (Bounds b m)
      (λ y h k. let z = h k in omega arith) xs d.bound) (λ k. omega arith);
  reached = inr (Any-push (Reaches b m) xs x (t, sym e));
}

same : (b : List ℕ) (xs : List Row) (x : Row) (n m : ℕ) → Deepest b xs n → m ≡ n → Bounds b n x
    → Deepest b (xs ++ x ∷ []) m
same b xs x n m d e h = rw e (record {
  bound = All-push (Bounds b n) xs x d.bound h;
  reached = elim d.reached [ inl z ↦ inl z | inr a ↦ inr (any_left (Reaches b n) xs (x ∷ []) a) ];
})

pub rows-preserved : goal.rows-preserved
rows-preserved c =
    let b = c.args.b.now.bytes.now in
    let xs = c.args.rows.now in
    let i = c.rows.row-index in
    let x : Row = get_or xs i blank in
    let d : Deepest b (take i xs) c.rows.deepest =
    record { bound = c.rows.invariant.bound; reached = c.rows.invariant.reached } in
    let more = take_more xs i blank c.rows-test.true in
    let next : Deepest b (take i xs ++ x ∷ []) c.if-is_too_deep.deepest = elim c.if-is_too_deep.branch [
      | then-is_too_deep w ↦ higher b (take i xs) x c.rows.deepest c.if-is_too_deep.deepest d w.deepest-is
          w.if-is_too_deep.ensures.entry w.if-is_too_deep.ensures.deep
      | else-is_too_deep w ↦ same b (take i xs) x c.rows.deepest c.if-is_too_deep.deepest d w.deepest-is
          w.if-is_too_deep.ensures.shallow
    ] in
    let all : Deepest b (take (i + 1) xs) c.if-is_too_deep.deepest =
    subst (λ (v : List Row). Deepest b v c.if-is_too_deep.deepest) (sym more) next in
    record { bound = all.bound; reached = all.reached }

pub returns-clause-bound : goal.returns-clause-bound
returns-clause-bound c =
    let e = take_all c.rows.row-index c.args.rows.now (omega arith) in
    subst (λ (v : List Row). All (Bounds c.args.b.now.bytes.now c.rows.deepest) v) e c.rows.invariant.bound

pub returns-clause-reached : goal.returns-clause-reached
returns-clause-reached c =
    let e = take_all c.rows.row-index c.args.rows.now (omega arith) in
    subst (λ (v : List Row). (c.rows.deepest ≡ 0)
    ⊎ Any (Reaches c.args.b.now.bytes.now c.rows.deepest) v) e c.rows.invariant.reached
