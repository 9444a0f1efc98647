-- The facts that the rows of a forest, and the references, have of their records' lists.
use Rattle.std.proofs.Common.{◌≡◌, ◌≢◌, ℕ, suc, ◌<◌, ◌≤◌, List, [], ◌∷◌, ◌++◌, drop, IsSome, inl, inr, refl, sym, ap}
use Rattle.std.proofs.Common.{subst, ◌∙◌, arith, append-nil}
use Rattle.std.proofs.lemmas.Bool.{cases_lt}
use Rattle.std.proofs.lemmas.Bool.Decides.{eqb_tells}
use Rattle.std.specs.List.{AllByRecursion as Every}
use Rattle.record_forest.specs.declared.reference.Reference.{Reference}
use Rattle.record_forest.specs.declared.reference.Row.{Row}
use Rattle.record_forest.specs.Members.{Has, Pairs}
use Rattle.record_forest.specs.Forest.{Forest, none, at, Stands, rows, all_rows, IsForest}
use Rattle.record_forest.specs.Faults.{InList, first, next as next_in, beside_root, HasDepth}
use Rattle.record_forest.proofs.Lists.{every_weaker, every_both, has_weaker, has_both, pairs_of, pairs_from, same_some}
use Rattle.record_forest.proofs.Place.{Placed, rows_placed, rows_sound, listed_row, reached_row, listed_reached}
use Rattle.record_forest.proofs.Place.{listed_live}
use Rattle.record_forest.proofs.Exact.{Differ}
use Rattle.record_forest.proofs.Orders.{Follows, next as next_after, further as further_after, Comes, ordered}
use Rattle.cramfs_format.specs.declared.order.Order.{Order}
use Rattle.cramfs_format.specs.Inode.{end_of, list_start, list_end, IsSound}
use Rattle.cramfs_format.specs.Refers.{references, LeadsToSound}
use Rattle.cramfs_format.specs.Faults.{IsReached, IsListed, ComesNext, ComesAfter, next, further}
use Rattle.cramfs_format.proofs.Lists.{end_after}
use Rattle.cramfs_format.proofs.Lawful.{nth, nth_rises, nth_from, live_root, target_entry, target_placed, placed_above}
use Rattle.cramfs_format.proofs.Lawful.{reached_placed, references_lawful}
use Rattle.cramfs_format.proofs.Bridge.{rows_fine, fine_which}

-- which of a list, behind the superblock, a reference is
pub record InChain (o : Order) (b : List ℕ) (d : ℕ) (x : Reference) : Type 0 where
  pub source : x.source ≡ d
  pub index : ℕ
  pub which : x.which ≡ nth o b d index
  pub above : 64 ≤ d

-- the next record of a list is at or before each record behind this one
nth_next : (o : Order) (b : List ℕ) (d n m : ℕ) → nth o b d n < nth o b d m → nth o b d (suc n) ≤ nth o b d m
nth_next o b d n m l = elim (cases_lt n m) [
  | inl h ↦ elim (eqb_tells (suc n) m) [
    | inl e ↦ let w : nth o b d (suc n) ≡ nth o b d m = ap (nth o b d) e.1 in omega arith
    | inr e ↦ let k = e.1 in let r = nth_rises o b d (suc n) m (omega arith) in omega arith
  ]
  | inr h ↦ elim (eqb_tells n m) [
    | inl e ↦ let w : nth o b d n ≡ nth o b d m = ap (nth o b d) e.1 in absurd (omega arith)
    | inr e ↦ let k = e.1 in let r = nth_rises o b d m n (omega arith) in absurd (omega arith)
  ]
]

module _ {o : Order} {b : List ℕ} {d : ℕ} where
  pub listed_chain : {x : Reference} → InList (references o b) (LeadsToSound o b) d x → InChain o b d x
  listed_chain (first {x = z} reached sound leads e live) =
      let p = reached_placed z reached in
      let w : z.which ≡ d = same_some (sym (target_placed z p) ∙ leads) in
      let a = placed_above z p in
      record {
        source = ap (λ (v : Reference). v.source) (sym e) ∙ w;
        index = 0;
        which = ap (λ (v : Reference). v.which) (sym e) ∙ ap (list_start o b) w;
        above = omega arith;
      }
  listed_chain (next_in {x = z} u sound e live) =
      let c = listed_chain u in
      record {
        source = ap (λ (v : Reference). v.source) (sym e) ∙ c.source;
        index = suc c.index;
        which = ap (λ (v : Reference). v.which) (sym e) ∙ ap (end_of o b) c.which;
        above = c.above;
      }
  listed_chain (beside_root {y = y} sound leads e live) =
      let s : y.source ≡ 0 = ap (λ (v : Reference). v.source) (sym e) in
      let w : y.which ≡ end_of o b 64 = ap (λ (v : Reference). v.which) (sym e) in
      let l = live_root o b y s live in
      let a = end_after o b 64 in
      absurd (omega arith)

  -- an entry comes right after that of a reference in its list
  comes_next : (z y : Reference) → InList (references o b) (LeadsToSound o b) d z → LeadsToSound o b z
      → (references o b).after z ≡ y → InList (references o b) (LeadsToSound o b) d y → ComesNext o b d z.which y.which
  comes_next z y u sound e v =
      let c = listed_chain u in
      let above = c.above in
      let live : z.source ≢ 0 = λ k. let s = c.source in absurd (omega arith) in
      let place = reached_placed y (listed_reached v) in
      record {
        listed = record { reference = z; listed = u; place = refl };
        sound = subst (λ (q : ℕ). IsSound o b (list_end o b q) z.which) c.source (sound.entry live);
        next = ap (λ (w : Reference). w.which) e;
        inside = inside y v;
      }
    where
      inside : (y : Reference) → InList (references o b) (LeadsToSound o b) d y → y.which < list_end o b d
      inside y v =
          let c = listed_chain v in
          let above = c.above in
          let s = c.source in
          let n : y.source ≢ 0 = λ k. absurd (omega arith) in
          subst (λ (q : ℕ). y.which < list_end o b q) s
          (Rattle.cramfs_format.proofs.Lawful.live_entry o b y n (listed_live v))

  -- An entry of a list that is before another comes before it.
  pub comes_between : (p : ℕ) → IsListed o b d p → (x : Reference) → InList (references o b) (LeadsToSound o b) d x
      → p < x.which → ComesAfter o b d p x.which
  comes_between p l x (first {x = z} reached sound leads e live) less =
      let c = listed_chain (first reached sound leads e live) in
      let k = listed_chain l.listed in
      let from = nth_from o b d k.index in
      let w : x.which ≡ list_start o b d =
      ap (λ (v : Reference). v.which) (sym e)
      ∙ ap (list_start o b) (ap (λ (v : Reference). v.source) e ∙ c.source) in
      let place = l.place in
      let which = k.which in
      absurd (omega arith)
  comes_between p l x (next_in {x = z} u sound e live) less =
      let here = comes_next z x u sound e (next_in u sound e live) in
      elim (cases_lt p z.which) [
        | inl before ↦ further (comes_between p l z u before) here
        | inr from ↦ elim (eqb_tells p z.which) [
          | inl same ↦ next (subst (λ (q : ℕ). ComesNext o b d q x.which) (sym same.1) here)
          | inr other ↦
              let k = listed_chain l.listed in
              let c = listed_chain u in
              let is : p ≡ nth o b d k.index = sym l.place ∙ k.which in
              let at' = c.which in
              let n = other.1 in
              let far = nth_next o b d c.index k.index (omega arith) in
              let there : x.which ≡ nth o b d (suc c.index) =
              ap (λ (v : Reference). v.which) (sym e) ∙ ap (end_of o b) c.which in
              absurd (omega arith)
        ]
      ]
  comes_between p l x (beside_root sound leads e live) less =
      let c = listed_chain (beside_root sound leads e live) in
      let s = c.source in
      let above = c.above in
      let z : x.source ≡ 0 = ap (λ (v : Reference). v.source) (sym e) in
      absurd (omega arith)

  -- What comes after an entry is behind it,
  pub comes_rises : (p q : ℕ) → ComesAfter o b d p q → p < q
  comes_rises p q (next c) = let e = end_after o b p in let n = c.next in omega arith
  comes_rises p q (further {q = s} c k) =
      let i = comes_rises p s c in let e = end_after o b s in let n = k.next in omega arith

  -- in the same list.
  pub next_listed : (p q : ℕ) → ComesNext o b d p q → IsListed o b d q
  next_listed p q c =
      let x = c.listed.reference in
      let k = listed_chain c.listed.listed in
      let above = k.above in
      let source = k.source in
      let y : Reference = record { source = x.source; which = end_of o b x.which } in
      let live : y.source ≢ 0 = λ z. absurd (omega arith) in
      let is : y.which ≡ q = ap (end_of o b) c.listed.place ∙ c.next in
      let inside : y.which < list_end o b y.source =
      subst (λ (s : ℕ). y.which < list_end o b s) (sym source)
      (subst (λ (s : ℕ). s < list_end o b d) (sym is) c.inside) in
      let sound : LeadsToSound o b x = record {
        root = λ z. absurd (live z);
        entry = λ z. subst (λ (s : ℕ). IsSound o b (list_end o b s) x.which) (sym source)
            (subst (λ (s : ℕ). IsSound o b (list_end o b d) s) (sym c.listed.place) c.sound);
      } in
      record {
        reference = y;
        listed = next_in c.listed.listed sound refl
            (subst IsSome (sym (target_entry o b y live inside)) refl);
        place = is;
      }

  pub comes_listed : (p q : ℕ) → ComesAfter o b d p q → IsListed o b d q
  comes_listed p q (next c) = next_listed p q c
  comes_listed p q (further {q = s} c k) = next_listed s q k

  pub comes_from : (p q : ℕ) → ComesAfter o b d p q → IsListed o b d p
  comes_from p q (next c) = c.listed
  comes_from p q (further {q = s} c k) = comes_from p s c

  -- There is no entry between an entry and the one right after it.
  pub next_closest : (p q s : ℕ) → ComesNext o b d p q → IsListed o b d s → p < s → q ≤ s
  next_closest p q s c l less =
      let k = listed_chain c.listed.listed in
      let m = listed_chain l.listed in
      let is : p ≡ nth o b d k.index = sym c.listed.place ∙ k.which in
      let at' : s ≡ nth o b d m.index = sym l.place ∙ m.which in
      let far = nth_next o b d k.index m.index (omega arith) in
      let there : q ≡ nth o b d (suc k.index) = sym c.next ∙ ap (end_of o b) is in
      omega arith

  -- What comes after an entry with none between comes right after it.
  pub none_between : (p q : ℕ) → ComesAfter o b d p q → ((s : ℕ) → IsListed o b d s → p < s → s < q → ⊥)
      → ComesNext o b d p q
  none_between p q (next c) none_there = c
  none_between p q (further {q = s} c k) none_there =
      absurd (none_there s (comes_listed p s c) (comes_rises p s c)
      (let e = end_after o b s in let n = k.next in omega arith))

-- a reference that follows another in a list is behind it
follows_rises : (o : Order) (b : List ℕ) (x y : Reference) → Follows (references o b) (LeadsToSound o b) x y
    → x.which < y.which
follows_rises o b x y (next_after sound e live) =
    let w : end_of o b x.which ≡ y.which =
    ap (λ (v : Reference). v.which) e in let a = end_after o b x.which in omega arith
follows_rises o b x y (further_after {y = z} c sound e live) =
    let i = follows_rises o b x z c in
    let w : end_of o b z.which ≡ y.which = ap (λ (v : Reference). v.which) e in
    let a = end_after o b z.which in
    omega arith

-- the later of two rows of one list is behind the other
abbrev pub Rises : Row → Row → Type 0
Rises x y = x.directory ≡ y.directory → x.offset < y.offset

module _ {o : Order} {b : List ℕ} {most : ℕ} {f : Forest}
    (h : IsForest (references o b) (LeadsToSound o b) most f) where
  whiches : Every (λ (y : Row). y.reference.which ≡ y.offset) (all_rows (references o b) f)
  whiches = every_weaker (Rattle.cramfs_format.proofs.Bridge.IsFine o b) (λ (y : Row). y.reference.which ≡ y.offset)
      (λ y k. fine_which y k) (all_rows (references o b) f) (rows_fine o b most f h)

  -- The records of the rows are those that are reached.
  pub rows_are_reached : Every (λ (y : Row). IsReached o b y.offset) (all_rows (references o b) f)
  rows_are_reached = every_weaker (Rattle.cramfs_format.proofs.Bridge.IsFine o b) (λ (y : Row). IsReached o b y.offset)
      (λ y k. record { reference = y.reference; reached = k.reached; place = fine_which y k; sound = k.sound })
      (all_rows (references o b) f) (rows_fine o b most f h)

  pub reached_has : (p : ℕ) → IsReached o b p → Has (λ (y : Row). y.offset ≡ p) (all_rows (references o b) f)
  reached_has p k =
      has_weaker (λ (y : Row). (y.reference.which ≡ y.offset) × (y.reference ≡ k.reference)) (λ (y : Row). y.offset ≡ p)
      (λ y z. sym z.0 ∙ ap (λ (x : Reference). x.which) z.1 ∙ k.place) (all_rows (references o b) f)
      (has_both (λ (y : Row). y.reference.which ≡ y.offset) (λ (y : Row). y.reference ≡ k.reference)
      (all_rows (references o b) f) whiches (reached_row (references_lawful o b) h k.reference k.reached))

  every_below : (P : Row → Type 0) (xs : List Row) → Every P xs → Every P (drop 1 xs)
  every_below P [] k = tt
  every_below P (x ∷ xs) k = k.1

  -- Each row below the root is in its list, at its depth.
  pub rows_listed : Every (λ (y : Row).
      (InList (references o b) (LeadsToSound o b) y.directory y.reference × (y.reference.which ≡ y.offset))
      × HasDepth (references o b) (LeadsToSound o b) y.offset y.depth) (drop 1 (all_rows (references o b) f))
  rows_listed =
      every_weaker (λ (y : Row). Placed (references o b) (LeadsToSound o b) y × (y.reference.which ≡ y.offset))
      (λ (y : Row). (InList (references o b) (LeadsToSound o b) y.directory y.reference
      × (y.reference.which ≡ y.offset)) × HasDepth (references o b) (LeadsToSound o b) y.offset y.depth)
      (λ y k. ((k.0.0, k.1), k.0.1)) (drop 1 (all_rows (references o b) f))
      (every_both (Placed (references o b) (LeadsToSound o b)) (λ (y : Row). y.reference.which ≡ y.offset)
      (drop 1 (all_rows (references o b) f)) (rows_placed (references_lawful o b) h)
      (every_below (λ (y : Row). y.reference.which ≡ y.offset) (all_rows (references o b) f) whiches))

  pub listed_in : (d p : ℕ) → IsListed o b d p
      → Has (λ (y : Row). (y.offset ≡ p) × (y.directory ≡ d)) (drop 1 (all_rows (references o b) f))
  listed_in d p l =
      has_weaker (λ (y : Row). (y.reference.which ≡ y.offset) × ((y.reference ≡ l.reference) × (y.directory ≡ d)))
      (λ (y : Row). (y.offset ≡ p) × (y.directory ≡ d))
      (λ y z. (sym z.0 ∙ ap (λ (x : Reference). x.which) z.1.0 ∙ l.place, z.1.1)) (drop 1 (all_rows (references o b) f))
      (has_both (λ (y : Row). y.reference.which ≡ y.offset)
      (λ (y : Row). (y.reference ≡ l.reference) × (y.directory ≡ d)) (drop 1 (all_rows (references o b) f))
      (every_below (λ (y : Row). y.reference.which ≡ y.offset) (all_rows (references o b) f) whiches)
      (listed_row (references_lawful o b) h d l.reference l.listed))

  -- no record comes after the root
  after_none : (after : Forest) → Stands (references o b) ((references o b).after (references o b).top) after
      → after ≡ none
  after_none none s = refl
  after_none (at p x y) s =
      let t : Reference = (references o b).after (references o b).top in
      let l = live_root o b t refl (subst IsSome (sym s.0) refl) in
      let a = end_after o b 64 in
      absurd (omega arith)

  -- Of two rows of one list the later one is behind the other.
  pub rows_rise : Pairs Rises (drop 1 (all_rows (references o b) f))
  rows_rise =
      pairs_of (λ (y : Row). y.reference.which ≡ y.offset) (Comes (references o b) (LeadsToSound o b)) Rises
      (λ y z u v k e. let l = follows_rises o b y.reference z.reference (k e) in omega arith)
      (drop 1 (all_rows (references o b) f))
      (every_below (λ (y : Row). y.reference.which ≡ y.offset) (all_rows (references o b) f) whiches)
      (by f h.stands (rows_sound (references_lawful o b) h) (pairs_from Differ (all_rows (references o b) f) h.single))
    where
      by : (e : Forest) → Stands (references o b) (references o b).top e
          → Every (λ (y : Row). LeadsToSound o b y.reference) (all_rows (references o b) e)
          → Pairs Differ (all_rows (references o b) e)
          → Pairs (Comes (references o b) (LeadsToSound o b)) (drop 1 (all_rows (references o b) e))
      by none s sound single = tt
      by (at p own after) s sound single =
          let g = references o b in
          let own_rows = rows g (g.own g.top) p p 1 own in
          let is : own_rows ++ rows g (g.after g.top) p p 1 after ≡ own_rows =
          ap (λ (e : Forest). own_rows ++ rows g (g.after g.top) p p 1 e) (after_none after s.2)
          ∙ append-nil own_rows in
          subst (Pairs (Comes g (LeadsToSound o b))) (sym is)
          (ordered g (LeadsToSound o b) (g.own g.top) p p 1 own s.1
          (subst (Every (λ (y : Row). LeadsToSound o b y.reference)) is sound.1)
          (every_weaker (λ (y : Row). p ≢ y.offset) (λ (y : Row). y.offset ≢ p) (λ y n i. n (sym i)) own_rows
          (subst (Every (λ (y : Row). p ≢ y.offset)) is single.0)) (subst (Pairs Differ) is single.1))

  pub below_single : Pairs Differ (drop 1 (all_rows (references o b) f))
  below_single = by (all_rows (references o b) f) (pairs_from Differ (all_rows (references o b) f) h.single)
    where
      by : (xs : List Row) → Pairs Differ xs → Pairs Differ (drop 1 xs)
      by [] k = tt
      by (x ∷ xs) k = k.1
