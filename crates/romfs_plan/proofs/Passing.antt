-- The two passes over the rows of names compute the offsets of the layout.
use Rattle.std.proofs.Common.{◌≡◌, ◌≢◌, ◌+◌, ◌<◌, ◌≤◌, ℕ, zero, suc, List, [], ◌∷◌, ◌++◌, length, get_or, replicate}
use Rattle.std.proofs.Common.{refl, sym, ap, ◌∙◌, arith}
use Rattle.std.proofs.Math.ListN.{set}
use Rattle.std.proofs.lemmas.List.{set-set, set-get_or, get_or-set_same, get_or-set_other, length-set}
use Rattle.romfs_format.specs.Record.{pad16}
use Rattle.manifest_tree.specs.Names.{Names, nothing, leaf, link, subdirectory}
use Rattle.manifest_tree.specs.Tree.{a_leaf, a_link, a_directory}
use Rattle.manifest_tree.specs.Files.{height}
use Rattle.romfs_layout.specs.Layout.{place_of, leaf_end, header_end, ends, first_place}
use Rattle.plan_rows.specs.Rows.{Row, row, rows}
use Rattle.romfs_plan.specs.declared.places.Place.{Place}
use Rattle.romfs_plan.specs.Passes.{row_place, row_end, places, places_end, place, placed, heads_with, heads_of}
use Rattle.romfs_plan.specs.Passes.{places_of, named_places}

places-append : (from : ℕ) (rs qs : List Row)
    → places from (rs ++ qs) ≡ places from rs ++ places (places_end from rs) qs
places-append from [] qs = refl
places-append from (r ∷ rs) qs = ap (λ (x : List ℕ). row_place from r ∷ x) (places-append (row_end from r) rs qs)

places_end-append : (from : ℕ) (rs qs : List Row) → places_end from (rs ++ qs) ≡ places_end (places_end from rs) qs
places_end-append from [] qs = refl
places_end-append from (r ∷ rs) qs = places_end-append (row_end from r) rs qs

-- the end of all that the rows place is that of the names
pub rows_end_is : (d from : ℕ) (n : Names) → places_end from (rows d n) ≡ ends from n
rows_end_is d from nothing = refl
rows_end_is d from (leaf name i after) = rows_end_is d (leaf_end from name i) after
rows_end_is d from (link name i after) = rows_end_is d (header_end from name) after
rows_end_is d from (subdirectory name i own after) =
    let h = header_end from name + 64 in
    places_end-append h (rows (d + 1) own) (rows d after)
    ∙ ap (λ (x : ℕ). places_end x (rows d after)) (rows_end_is (d + 1) h own)
    ∙ rows_end_is d (ends h own) after

pub length-places : (from : ℕ) (rs : List Row) → length (places from rs) ≡ length rs
length-places from [] = refl
length-places from (r ∷ rs) = ap suc (length-places (row_end from r) rs)

heads_of-append : (heads : List ℕ) (rs qs : List Row) (ps os : List ℕ) → length ps ≡ length rs
    → heads_of heads (rs ++ qs) (ps ++ os) ≡ heads_of (heads_of heads qs os) rs ps
heads_of-append heads [] qs [] os h = refl
heads_of-append heads [] qs (p ∷ ps) os h = absurd (omega (arith, h))
heads_of-append heads (r ∷ rs) qs [] os h = absurd (omega (arith, h))
heads_of-append heads (r ∷ rs) qs (p ∷ ps) os h =
    ap (λ (x : List ℕ). heads_with x r p) (heads_of-append heads rs qs ps os (omega (arith, h)))

places_of-append : (heads : List ℕ) (rs qs : List Row) (ps os : List ℕ) → length ps ≡ length rs
    → places_of heads (rs ++ qs) (ps ++ os) ≡ places_of (heads_of heads qs os) rs ps ++ places_of heads qs os
places_of-append heads [] qs [] os h = refl
places_of-append heads [] qs (p ∷ ps) os h = absurd (omega (arith, h))
places_of-append heads (r ∷ rs) qs [] os h = absurd (omega (arith, h))
places_of-append heads (r ∷ rs) qs (p ∷ ps) os h =
    let l : length ps ≡ length rs = omega (arith, h) in
    let e = heads_of-append heads rs qs ps os l in
    let f = places_of-append heads rs qs ps os l in
    rw (e, f) refl

settle : (heads : List ℕ) (d x p : ℕ) → get_or heads (d + 1) 0 ≡ 0
    → set (set (set heads d x) (d + 1) 0) d p ≡ set heads d p
settle heads d x p h =
    let ne : d + 1 ≢ d = omega arith in
    let e : get_or (set heads d x) (d + 1) 0 ≡ 0 = get_or-set_other heads d (d + 1) x 0 ne ∙ h in
    let f : set (set heads d x) (d + 1) 0 ≡ set heads d x =
    ap (λ (v : ℕ). set (set heads d x) (d + 1) v) (sym e) ∙ set-get_or (set heads d x) (d + 1) 0 in
    ap (λ (z : List ℕ). set z d p) f ∙ set-set heads d x p

-- the results of the passes for names at depth d that are placed from `from` on
record Computes (d from : ℕ) (heads : List ℕ) (n : Names) : Type 0 where
  pub heads_are : heads_of heads (rows d n) (places from (rows d n)) ≡ set heads d (first_place from n)
  pub places_are : places_of heads (rows d n) (places from (rows d n)) ≡ named_places from n

-- a row p without a list of its own, in front of others that are computed
single : (d p q : ℕ) (heads : List ℕ) (r : Row) (n : Names) → r.depth ≡ d → d + 1 < length heads
    → get_or heads (d + 1) 0 ≡ 0 → Computes d q heads n
    → (heads_of heads (r ∷ rows d n) (p ∷ places q (rows d n)) ≡ set heads d p)
    × (places_of heads (r ∷ rows d n) (p ∷ places q (rows d n)) ≡ place p (first_place q n) 0 ∷ named_places q n)
single d p q heads r n at wide z later =
    let x = first_place q n in
    let ne : d + 1 ≢ d = omega arith in
    let a : get_or (set heads d x) d 0 ≡ x = get_or-set_same heads d x 0 (omega (arith, wide)) in
    let b : get_or (set heads d x) (d + 1) 0 ≡ 0 = get_or-set_other heads d (d + 1) x 0 ne ∙ z in
    let l : placed (heads_of heads (rows d n) (places q (rows d n))) r p ≡ place p x 0 =
    ap (λ (h : List ℕ). placed h r p) later.heads_are
    ∙ ap (λ (k : ℕ). place p (get_or (set heads d x) k 0) (get_or (set heads d x) (k + 1) 0)) at
    ∙ ap (λ (v : ℕ). place p v (get_or (set heads d x) (d + 1) 0)) a ∙ ap (λ (v : ℕ). place p x v) b in (
      ap (λ (h : List ℕ). heads_with h r p) later.heads_are ∙ ap (λ (k : ℕ). set (set (set heads d x) (k + 1) 0) k p) at
          ∙ settle heads d x p z,
      ap (λ (m : Place). m ∷ places_of heads (rows d n) (places q (rows d n))) l
          ∙ ap (λ (ms : List Place). place p x 0 ∷ ms) later.places_are,
    )

computes : (d from : ℕ) (heads : List ℕ) (n : Names) → d + height n < length heads
    → ((j : ℕ) → d ≤ j → get_or heads j 0 ≡ 0) → Computes d from heads n
computes d from heads nothing room zeros = record {
  heads_are = sym (ap (λ (v : ℕ). set heads d v) (sym (zeros d (omega arith))) ∙ set-get_or heads d 0);
  places_are = refl;
}
computes d from heads (leaf name i after) room zeros =
    let q = leaf_end from name i in
    let later = computes d q heads after (omega (arith, room)) zeros in
    let s = single d (place_of from name i) q heads (row d name (a_leaf i)) after refl (omega (arith, room))
    (zeros (d + 1) (omega arith)) later in
    record { heads_are = s.0; places_are = s.1 }
computes d from heads (link name i after) room zeros =
    let q = header_end from name in
    let later = computes d q heads after (omega (arith, room)) zeros in
    let s = single d (pad16 from) q heads (row d name (a_link i)) after refl (omega (arith, room))
    (zeros (d + 1) (omega arith)) later in
    record { heads_are = s.0; places_are = s.1 }
computes d from heads (subdirectory name i own after) room zeros =
    let r = row d name (a_directory i) in
    let p = pad16 from in
    let s = header_end from name + 64 in
    let q = ends s own in
    let x = first_place q after in
    let y = first_place s own in
    let later = computes d q heads after (omega (arith, room)) zeros in
    let z = zeros (d + 1) (omega arith) in
    let ne : d + 1 ≢ d = omega arith in
    let en : d ≢ d + 1 = omega arith in
    let wide : d + 1 < length heads = omega (arith, room) in
    let here : d < length heads = omega (arith, wide) in
    let h1 = set heads d x in
    let same : length h1 ≡ length heads = length-set heads d x in
    let room1 : d + 1 + height own < length h1 = omega (arith, same, room) in
    let zeros1 : (j : ℕ) → d + 1 ≤ j → get_or h1 j 0 ≡ 0 =
    λ j k. let nj : j ≢ d = omega (arith, k) in get_or-set_other heads d j x 0 nj ∙ zeros j (omega (arith, k)) in
    let inner = computes (d + 1) s h1 own room1 zeros1 in
    let split : places s (rows (d + 1) own ++ rows d after) ≡ places s (rows (d + 1) own) ++ places q (rows d after) =
    places-append s (rows (d + 1) own) (rows d after)
    ∙ ap (λ (n : ℕ). places s (rows (d + 1) own) ++ places n (rows d after)) (rows_end_is (d + 1) s own) in
    let h2 = set h1 (d + 1) y in
    let heads2 : heads_of heads (rows (d + 1) own ++ rows d after) (places s (rows (d + 1) own ++ rows d after)) ≡ h2 =
    ap (heads_of heads (rows (d + 1) own ++ rows d after)) split
    ∙ heads_of-append heads (rows (d + 1) own) (rows d after) (places s (rows (d + 1) own))
    (places q (rows d after)) (length-places s (rows (d + 1) own))
    ∙ ap (λ (h : List ℕ). heads_of h (rows (d + 1) own) (places s (rows (d + 1) own))) later.heads_are
    ∙ inner.heads_are in
    let links2 : places_of heads (rows (d + 1) own ++ rows d after) (places s (rows (d + 1) own ++ rows d after))
    ≡ named_places s own ++ named_places q after =
    ap (places_of heads (rows (d + 1) own ++ rows d after)) split
    ∙ places_of-append heads (rows (d + 1) own) (rows d after) (places s (rows (d + 1) own))
    (places q (rows d after)) (length-places s (rows (d + 1) own))
    ∙ ap (λ (h : List ℕ). places_of h (rows (d + 1) own) (places s (rows (d + 1) own))
    ++ places_of heads (rows d after) (places q (rows d after))) later.heads_are
    ∙ ap (λ (ms : List Place). ms ++ places_of heads (rows d after) (places q (rows d after))) inner.places_are
    ∙ ap (λ (ms : List Place). named_places s own ++ ms) later.places_are in
    let wide1 : d + 1 < length h1 = omega (arith, same, wide) in
    let a : get_or h2 d 0 ≡ x = get_or-set_other h1 (d + 1) d y 0 en ∙ get_or-set_same heads d x 0 here in
    let b : get_or h2 (d + 1) 0 ≡ y = get_or-set_same h1 (d + 1) y 0 wide1 in
    let l : placed (heads_of heads (rows (d + 1) own ++ rows d after) (places s (rows (d + 1) own ++ rows d after))) r p
    ≡ place p x y =
    ap (λ (h : List ℕ). placed h r p) heads2
    ∙ ap (λ (v : ℕ). place p v (get_or h2 (d + 1) 0)) a ∙ ap (λ (v : ℕ). place p x v) b in
    let h3 : heads_with (heads_of heads (rows (d + 1) own ++ rows d after)
    (places s (rows (d + 1) own ++ rows d after))) r p ≡ set heads d p =
    ap (λ (h : List ℕ). heads_with h r p) heads2 ∙ ap (λ (h : List ℕ). set h d p) (set-set h1 (d + 1) y 0)
    ∙ settle heads d x p z in
    let all : placed (heads_of heads (rows (d + 1) own ++ rows d after)
    (places s (rows (d + 1) own ++ rows d after))) r p
    ∷ places_of heads (rows (d + 1) own ++ rows d after) (places s (rows (d + 1) own ++ rows d after))
    ≡ place p x y ∷ (named_places s own ++ named_places q after) =
    ap (λ (m : Place). m ∷ places_of heads (rows (d + 1) own ++ rows d after)
    (places s (rows (d + 1) own ++ rows d after))) l ∙ ap (λ (ms : List Place). place p x y ∷ ms) links2 in
    record { heads_are = h3; places_are = all }

no_heads : (n j : ℕ) → ◌≡◌ {A = ℕ} (get_or (replicate {A = ℕ} n 0) j 0) 0
no_heads zero j = refl
no_heads (suc n) zero = refl
no_heads (suc n) (suc j) = no_heads n j

-- the offsets are those of the names
pub places_are : (from : ℕ) (rs : List Row) (ps : List ℕ) (n : Names) → rs ≡ rows 1 n → ps ≡ places from rs
    → height n ≤ 64
    → places_of (replicate 66 0) rs ps ≡ named_places from n
places_are from rs ps n e f low =
    ap (places_of (replicate 66 0) rs) f
    ∙ ap (λ (qs : List Row). places_of (replicate {A = ℕ} 66 0) qs (places from qs)) e
    ∙ (computes 1 from (replicate 66 0) n (omega (arith, low)) (λ j k. no_heads 66 j)).places_are
