-- The pass backwards computes the lengths of lists.
use Rattle.std.proofs.Common.{◌≡◌, ◌≢◌, ◌+◌, ◌*◌, ◌<◌, ◌≤◌, ℕ, zero, suc, List, [], ◌∷◌, ◌++◌, ◌^◌, map, drop}
use Rattle.std.proofs.Common.{replicate, length, get_or, refl, sym, ap, subst, ◌∙◌, arith, Fits, w64}
use Rattle.std.proofs.Math.ListN.{set}
use Rattle.std.proofs.lemmas.List.{set-set, set-get_or, get_or-set_same, get_or-set_other, length-set, length-map}
use Rattle.std.proofs.lemmas.List.{length-drop}
use Rattle.std.specs.List.{All, AllByRecursion as Every}
use Rattle.std.proofs.lemmas.List.Elements.{recursion_from_All}
use Rattle.record_forest.proofs.Lists.{every_weaker}
use Rattle.manifest_tree.specs.Names.{Names, nothing, leaf, link, subdirectory}
use Rattle.manifest_tree.specs.Tree.{a_leaf, a_link, a_directory}
use Rattle.manifest_tree.specs.Files.{height}
use Rattle.cramfs_layout.specs.Layout.{entry_len, list_len}
use Rattle.plan_rows.specs.declared.row.Row as code
use Rattle.plan_rows.specs.Rows.{Row, row, rows, row_view}
use Rattle.cramfs_plan.specs.Bounds.{IsNarrow}
use Rattle.cramfs_plan.specs.Passes.{lens_with, lens_of, own_lens, named_lens}

lens_of-append : (lens : List ℕ) (rs qs : List Row) → lens_of lens (rs ++ qs) ≡ lens_of (lens_of lens qs) rs
lens_of-append lens [] qs = refl
lens_of-append lens (r ∷ rs) qs = ap (λ (x : List ℕ). lens_with x r) (lens_of-append lens rs qs)

own_lens-append : (lens : List ℕ) (rs qs : List Row)
    → own_lens lens (rs ++ qs) ≡ own_lens (lens_of lens qs) rs ++ own_lens lens qs
own_lens-append lens [] qs = refl
own_lens-append lens (r ∷ rs) qs =
    rw (lens_of-append lens rs qs) (ap (λ (x : List ℕ). get_or (lens_of (lens_of lens qs) rs) (r.depth + 1) 0 ∷ x)
    (own_lens-append lens rs qs))

-- the result of the pass for names at depth d
pub record Measures (d : ℕ) (lens : List ℕ) (n : Names) : Type 0 where
  pub lens_are : lens_of lens (rows d n) ≡ set lens d (get_or lens d 0 + list_len n)
  pub own_are : own_lens lens (rows d n) ≡ named_lens n

settle : (lens : List ℕ) (d x p : ℕ) → get_or lens (d + 1) 0 ≡ 0
    → set (set (set lens d x) (d + 1) 0) d p ≡ set lens d p
settle lens d x p h =
    let ne : d + 1 ≢ d = omega arith in
    let e : get_or (set lens d x) (d + 1) 0 ≡ 0 = get_or-set_other lens d (d + 1) x 0 ne ∙ h in
    let f : set (set lens d x) (d + 1) 0 ≡ set lens d x =
    ap (λ (v : ℕ). set (set lens d x) (d + 1) v) (sym e) ∙ set-get_or (set lens d x) (d + 1) 0 in
    ap (λ (z : List ℕ). set z d p) f ∙ set-set lens d x p

-- a row without a list of its own, in front of others that are measured
single : (d : ℕ) (lens : List ℕ) (r : Row) (n : Names) → r.depth ≡ d → d + 1 < length lens
    → get_or lens (d + 1) 0 ≡ 0 → Measures d lens n
    → (lens_of lens (r ∷ rows d n) ≡ set lens d (get_or lens d 0 + (entry_len r.name + list_len n)))
    × (own_lens lens (r ∷ rows d n) ≡ 0 ∷ named_lens n)
single d lens r n at wide z later =
    let x = get_or lens d 0 + list_len n in
    let e = entry_len r.name in
    let h = set lens d x in
    let ne : d + 1 ≢ d = omega arith in
    let a : get_or h d 0 ≡ x = get_or-set_same lens d x 0 (omega (arith, wide)) in
    let b : get_or h (d + 1) 0 ≡ 0 = get_or-set_other lens d (d + 1) x 0 ne ∙ z in
    let v : x + e ≡ get_or lens d 0 + (e + list_len n) = omega arith in (
      ap (λ (g : List ℕ). lens_with g r) later.lens_are ∙ ap (λ (k : ℕ). set (set h (k + 1) 0) k (get_or h k 0 + e)) at
          ∙ ap (λ (k : ℕ). set (set h (d + 1) 0) d (k + e)) a ∙ ap (λ (k : ℕ). set (set h (d + 1) 0) d k) v
          ∙ settle lens d x (get_or lens d 0 + (e + list_len n)) z,
      ap (λ (g : List ℕ). get_or g (r.depth + 1) 0 ∷ own_lens lens (rows d n)) later.lens_are
          ∙ ap (λ (k : ℕ). get_or h (k + 1) 0 ∷ own_lens lens (rows d n)) at
          ∙ ap (λ (k : ℕ). k ∷ own_lens lens (rows d n)) b ∙ ap (λ (ls : List ℕ). 0 ∷ ls) later.own_are,
    )

pub measures : (d : ℕ) (lens : List ℕ) (n : Names) → d + height n < length lens
    → ((j : ℕ) → d < j → get_or lens j 0 ≡ 0) → Measures d lens n
measures d lens nothing room zeros = record {
  lens_are = sym (ap (λ (v : ℕ). set lens d v) more_nothing ∙ set-get_or lens d 0);
  own_are = refl;
}
  where
    more_nothing : get_or lens d 0 + 0 ≡ get_or lens d 0
    more_nothing = omega arith
measures d lens (leaf name i after) room zeros =
    let s = single d lens (row d name (a_leaf i)) after refl (omega (arith, room)) (zeros (d + 1) (omega arith))
    (measures d lens after (omega (arith, room)) zeros) in
    record { lens_are = s.0; own_are = s.1 }
measures d lens (link name i after) room zeros =
    let s = single d lens (row d name (a_link i)) after refl (omega (arith, room)) (zeros (d + 1) (omega arith))
    (measures d lens after (omega (arith, room)) zeros) in
    record { lens_are = s.0; own_are = s.1 }
measures d lens (subdirectory name i own after) room zeros =
    let r = row d name (a_directory i) in
    let later = measures d lens after (omega (arith, room)) zeros in
    let x = get_or lens d 0 + list_len after in
    let y = list_len own in
    let e = entry_len name in
    let z = zeros (d + 1) (omega arith) in
    let ne : d + 1 ≢ d = omega arith in
    let en : d ≢ d + 1 = omega arith in
    let wide : d + 1 < length lens = omega (arith, room) in
    let h1 = set lens d x in
    let same : length h1 ≡ length lens = length-set lens d x in
    let zeros1 : (j : ℕ) → d + 1 < j → get_or h1 j 0 ≡ 0 =
    λ j k. let nj : j ≢ d = omega (arith, k) in get_or-set_other lens d j x 0 nj ∙ zeros j (omega (arith, k)) in
    let inner = measures (d + 1) h1 own (omega (arith, same, room)) zeros1 in
    let clear : get_or h1 (d + 1) 0 ≡ 0 = get_or-set_other lens d (d + 1) x 0 ne ∙ z in
    let h2 = set h1 (d + 1) y in
    let alone : 0 + y ≡ y = omega arith in
    let lens2 : lens_of lens (rows (d + 1) own ++ rows d after) ≡ h2 =
    lens_of-append lens (rows (d + 1) own) (rows d after)
    ∙ ap (λ (g : List ℕ). lens_of g (rows (d + 1) own)) later.lens_are
    ∙ inner.lens_are ∙ ap (λ (k : ℕ). set h1 (d + 1) (k + y)) clear ∙ ap (set h1 (d + 1)) alone in
    let own2 : own_lens lens (rows (d + 1) own ++ rows d after) ≡ named_lens own ++ named_lens after =
    own_lens-append lens (rows (d + 1) own) (rows d after)
    ∙ ap (λ (g : List ℕ). own_lens g (rows (d + 1) own) ++ own_lens lens (rows d after)) later.lens_are
    ∙ ap (λ (ls : List ℕ). ls ++ own_lens lens (rows d after)) inner.own_are
    ∙ ap (λ (ls : List ℕ). named_lens own ++ ls) later.own_are in
    let a : get_or h2 d 0 ≡ x =
    get_or-set_other h1 (d + 1) d y 0 en ∙ get_or-set_same lens d x 0 (omega (arith, wide)) in
    let b : get_or h2 (d + 1) 0 ≡ y = get_or-set_same h1 (d + 1) y 0 (omega (arith, same, wide)) in
    let v : x + e ≡ get_or lens d 0 + (e + list_len after) = omega arith in
    let total = get_or lens d 0 + (e + list_len after) in
    record {
      lens_are =
          ap (λ (g : List ℕ). lens_with g r) lens2
          ∙ ap (λ (g : List ℕ). set g d (get_or h2 d 0 + e)) (set-set h1 (d + 1) y 0)
          ∙ ap (λ (k : ℕ). set (set h1 (d + 1) 0) d (k + e)) a ∙ ap (λ (k : ℕ). set (set h1 (d + 1) 0) d k) v
          ∙ settle lens d x total z;
      own_are =
          ap (λ (g : List ℕ). get_or g (d + 1) 0 ∷ own_lens lens (rows (d + 1) own ++ rows d after)) lens2
          ∙ ap (λ (k : ℕ). k ∷ own_lens lens (rows (d + 1) own ++ rows d after)) b ∙ ap (λ (ls : List ℕ). y ∷ ls) own2;
    }

-- of short names no list is longer than 300 bytes for each
pub every_set : {X : Type 0} (P : X → Type 0) (xs : List X) (i : ℕ) (x : X) → Every P xs → P x → Every P (set xs i x)
every_set P [] i x h p = tt
every_set P (y ∷ ys) zero x h p = (p, h.1)
every_set P (y ∷ ys) (suc i) x h p = (h.0, every_set P ys i x h.1 p)

pub every_at : {X : Type 0} (P : X → Type 0) (xs : List X) (i : ℕ) (d : X) → Every P xs → P d → P (get_or xs i d)
every_at P [] i d h p = p
every_at P (y ∷ ys) zero d h p = h.0
every_at P (y ∷ ys) (suc i) d h p = every_at P ys i d h.1 p

pub lens_near : (lens : List ℕ) (rs : List Row) → Every (λ (r : Row). length r.name < 256) rs → Every (λ n. n ≡ 0) lens
    → Every (λ n. n ≤ length rs * 300) (lens_of lens rs)
lens_near lens [] h z = every_weaker (λ n. n ≡ 0) (λ n. n ≤ 0) (λ n e. omega (arith, e)) lens z
lens_near lens (r ∷ rs) h z =
    let more = every_weaker (λ n. n ≤ length rs * 300) (λ n. n ≤ suc (length rs) * 300) (λ n e. omega (arith, e))
    (lens_of lens rs) (lens_near lens rs h.1 z) in
    let at = every_at (λ n. n ≤ length rs * 300) (lens_of lens rs) r.depth 0 (lens_near lens rs h.1 z) (omega arith) in
    let short = h.0 in
    every_set (λ n. n ≤ suc (length rs) * 300) (set (lens_of lens rs) (r.depth + 1) 0) r.depth
    (get_or (lens_of lens rs) r.depth 0 + entry_len r.name)
    (every_set (λ n. n ≤ suc (length rs) * 300) (lens_of lens rs) (r.depth + 1) 0 more (omega arith))
    (omega (arith, at, short))

narrow_rows : (rs : List code.Row) (i : ℕ) → Every IsNarrow rs
    → Every (λ (r : Row). length r.name < 256) (map row_view (drop i rs))
narrow_rows [] zero h = tt
narrow_rows [] (suc i) h = tt
narrow_rows (r ∷ rs) zero h = (h.0.0, narrow_rows rs zero h.1)
narrow_rows (r ∷ rs) (suc i) h = narrow_rows rs i h.1

zeros : (n : ℕ) → Every (λ k. k ≡ 0) (replicate {A = ℕ} n 0)
zeros zero = tt
zeros (suc n) = (refl, zeros n)

pub read_near : (rs : List code.Row) (lens : List ℕ) (i j d : ℕ) → All IsNarrow rs → length rs ≤ 2 ^ 20
    → lens ≡ lens_of (replicate {A = ℕ} 66 0) (map row_view (drop i rs)) → d ≡ 0 → get_or lens j d ≤ 2 ^ 20 * 300
read_near rs lens i j d h few e z =
    let short = narrow_rows rs i (recursion_from_All IsNarrow rs h) in
    let near = lens_near (replicate {A = ℕ} 66 0) (map row_view (drop i rs)) short (zeros 66) in
    let all : Every (λ n. n ≤ length (map row_view (drop i rs)) * 300) lens =
    subst (Every (λ n. n ≤ length (map row_view (drop i rs)) * 300)) (sym e) near in
    let at = every_at (λ n. n ≤ length (map row_view (drop i rs)) * 300) lens j d all (omega (arith, z)) in
    let same = length-map (drop i rs) row_view in
    let less = length-drop i rs in
    omega (arith, at, same, less, few)

pub longer_fits : (rs : List code.Row) (lens : List ℕ) (i j d more : ℕ) → All IsNarrow rs → length rs ≤ 2 ^ 20
    → lens ≡ lens_of (replicate {A = ℕ} 66 0) (map row_view (drop i rs)) → d ≡ 0 → more < 300
    → Fits w64 (get_or lens j d + more)
longer_fits rs lens i j d more h few e z s = let near = read_near rs lens i j d h few e z in omega (arith, near, s)
