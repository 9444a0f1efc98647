-- The references of a cramfs image satisfy what the walk over records needs.
use Rattle.std.proofs.Common.{◌≡◌, ◌≢◌, ℕ, zero, suc, ◌+◌, ◌<◌, ◌≤◌, Bool, true, false, List, length, None, Some}
use Rattle.std.proofs.Common.{IsSome, ◌⊎◌, inl, inr, refl, sym, ap, subst, ◌∙◌, arith, rules}
use Rattle.std.proofs.lemmas.Bool.{ne_eqb, eq-eqb, cases_lt, false≢true}
use Rattle.std.proofs.lemmas.Bool.Decides.{eqb_tells}
use Rattle.record_forest.specs.declared.reference.Reference.{Reference}
use Rattle.record_forest.specs.References.{Reached, top, more, AreLawful, edge, IsLive}
use Rattle.cramfs_format.specs.declared.order.Order.{Order}
use Rattle.cramfs_format.specs.Inode.{end_of, list_start, list_end, ListLies}
use Rattle.cramfs_format.specs.Refers.{references, reference_target, root_place, LeadsToSound}
use Rattle.cramfs_format.proofs.Lists.{lt_decides, end_after, in_list, start_is}

-- the n-th record of the list of the directory at d
abbrev pub nth : Order → List ℕ → ℕ → ℕ → ℕ
nth o b d zero = list_start o b d
nth o b d (suc n) = end_of o b (nth o b d n)

pub nth_rises : (o : Order) (b : List ℕ) (d n m : ℕ) → n < m → nth o b d n + 12 ≤ nth o b d m
nth_rises o b d n zero h = absurd (omega arith)
nth_rises o b d n (suc m) h =
    let e = end_after o b (nth o b d m) in
    elim (eqb_tells n m) [
      | inl i ↦ let w : nth o b d n ≡ nth o b d m = ap (nth o b d) i.1 in omega arith
      | inr i ↦ let k = i.1 in let l : n < m = omega arith in let ih = nth_rises o b d n m l in omega arith
    ]

nth_same : (o : Order) (b : List ℕ) (d n m : ℕ) → nth o b d n ≡ nth o b d m → n ≡ m
nth_same o b d n m e = elim (cases_lt n m) [
  | inl h ↦ let r = nth_rises o b d n m h in absurd (omega arith)
  | inr h ↦ elim (cases_lt m n) [
    | inl l ↦ let r = nth_rises o b d m n l in absurd (omega arith)
    | inr l ↦ omega arith
  ]
]

pub nth_from : (o : Order) (b : List ℕ) (d n : ℕ) → list_start o b d ≤ nth o b d n
nth_from o b d zero = omega arith
nth_from o b d (suc n) = let ih = nth_from o b d n in let e = end_after o b (nth o b d n) in omega arith

-- the record that a valid reference leads to has its list where it may be
pub sound_list : (o : Order) (b : List ℕ) (x : Reference) → LeadsToSound o b x → ListLies o b x.which
sound_list o b x s = elim (eqb_tells x.source 0) [ inl h ↦ s.root h.1 | inr h ↦ (s.entry h.1).body.list ]

-- which references lead to a record
pub live_entry : (o : Order) (b : List ℕ) (x : Reference) → x.source ≢ 0 → IsSome (reference_target o b x)
    → x.which < list_end o b x.source
unfolding reference_target
live_entry o b x n h = elim (lt_decides x.which (list_end o b x.source)) [
  | inl k ↦ k.1
  | inr k ↦ let z : IsSome {T = ℕ} None = (rw (ne_eqb x.source 0 n, k.0) at h) in absurd (false≢true z)
]

pub live_root : (o : Order) (b : List ℕ) (x : Reference) → x.source ≡ 0 → IsSome (reference_target o b x)
    → x.which ≡ root_place
unfolding reference_target
live_root o b x e h = elim (eqb_tells x.which 64) [
  | inl k ↦ k.1
  | inr k ↦ let z : IsSome {T = ℕ} None = (rw (eq-eqb x.source 0 e, k.0) at h) in absurd (false≢true z)
]

pub target_entry : (o : Order) (b : List ℕ) (x : Reference) → x.source ≢ 0 → x.which < list_end o b x.source
    → reference_target o b x ≡ Some x.which
unfolding reference_target
target_entry o b x n h = elim (lt_decides x.which (list_end o b x.source)) [
  | inl k ↦ rw (ne_eqb x.source 0 n, k.0) refl
  | inr k ↦ let l = k.1 in absurd (omega arith)
]

-- where a reached reference is: the superblock's, or the n-th of a list behind the superblock
pub data IsPlaced (o : Order) (b : List ℕ) (x : Reference) : Type 0 where
  at_top : x.source ≡ 0 → x.which ≡ root_place → IsPlaced o b x
  in_chain : (n : ℕ) → x.source ≢ 0 → 76 ≤ x.which → x.which ≡ nth o b x.source n → x.which < list_end o b x.source
      → list_end o b x.source ≤ length b → IsPlaced o b x

module _ {o : Order} {b : List ℕ} where
  -- the first of a list
  placed_own : (z y : Reference) → z.which ≢ 0 → ListLies o b z.which → (references o b).own z ≡ y
      → IsLive (references o b) y → IsPlaced o b y
  placed_own z y n lies e live =
      let s : y.source ≡ z.which = ap (λ (v : Reference). v.source) (sym e) in
      let w : y.which ≡ list_start o b z.which = ap (λ (v : Reference). v.which) (sym e) in
      let n' : y.source ≢ 0 = λ k. n (sym s ∙ k) in
      let l = live_entry o b y n' live in
      let l' : y.which < list_end o b z.which = subst (λ (v : ℕ). y.which < list_end o b v) s l in
      let d = in_list o b z.which y.which l' in
      let size = d.1 in
      let st = start_is o b z.which in
      let k = lies d.0 (omega arith) in
      let t : list_end o b y.source ≡ list_end o b z.which = ap (list_end o b) s in
      let inside = k.1 in
      in_chain 0 n' (omega arith) (w ∙ ap (list_start o b) (sym s)) l (omega arith)

  placed_after : (z y : Reference) → IsPlaced o b z → (references o b).after z ≡ y → IsLive (references o b) y
      → IsPlaced o b y
  placed_after z y (at_top i j) e live =
      let s : y.source ≡ 0 = ap (λ (v : Reference). v.source) (sym e) ∙ i in
      let w : y.which ≡ end_of o b z.which = ap (λ (v : Reference). v.which) (sym e) in
      let l = live_root o b y s live in
      let a = end_after o b z.which in
      absurd (omega arith)
  placed_after z y (in_chain n i j k l m) e live =
      let s : y.source ≡ z.source = ap (λ (v : Reference). v.source) (sym e) in
      let w : y.which ≡ end_of o b z.which = ap (λ (v : Reference). v.which) (sym e) in
      let n' : y.source ≢ 0 = λ v. i (sym s ∙ v) in
      let a = end_after o b z.which in
      in_chain (suc n) n' (omega arith) (w ∙ ap (end_of o b) k ∙ ap (λ (v : ℕ). nth o b v (suc n)) (sym s))
      (live_entry o b y n' live) (subst (λ (v : ℕ). list_end o b v ≤ length b) (sym s) m)

  pub placed_above : (x : Reference) → IsPlaced o b x → 64 ≤ x.which
  placed_above x (at_top i j) = omega arith
  placed_above x (in_chain n i j k l m) = omega arith

  pub reached_placed : (x : Reference) → Reached (references o b) (LeadsToSound o b) x → IsPlaced o b x
  reached_placed x (top e) = at_top (ap (λ (v : Reference). v.source) e) (ap (λ (v : Reference). v.which) e)
  reached_placed x (more {x = z} reached sound true e live) =
      let p = reached_placed z reached in
      let a = placed_above z p in
      placed_own z x (λ k. absurd (omega arith)) (sound_list o b z sound) e live
  reached_placed x (more {x = z} reached sound false e live) = placed_after z x (reached_placed z reached) e live

  pub target_placed : (x : Reference) → IsPlaced o b x → reference_target o b x ≡ Some x.which
  unfolding reference_target
  target_placed x (at_top i j) = rw (eq-eqb x.source 0 i, eq-eqb x.which 64 j) (ap Some (sym j))
  target_placed x (in_chain n i j k l m) = target_entry o b x i l

  same_which : (x y : Reference) → IsPlaced o b x → IsPlaced o b y → reference_target o b x ≡ reference_target o b y
      → x.which ≡ y.which
  same_which x y p q e = let z : Some x.which ≡ Some y.which = sym (target_placed x p) ∙ e ∙ target_placed y q in cc

  same_target : (x y : Reference) → IsPlaced o b x → IsPlaced o b y → x.which ≡ y.which
      → reference_target o b x ≡ reference_target o b y
  same_target x y p q e = target_placed x p ∙ ap Some e ∙ sym (target_placed y q)

  -- the first of one list is no later one of another
  never_first : (x y : Reference) → IsPlaced o b x → IsPlaced o b y → (references o b).own x ≡ (references o b).after y
      → ⊥
  never_first x y p (at_top i j) e =
      let s : x.which ≡ y.source = ap (λ (v : Reference). v.source) e in
      let a = placed_above x p in
      omega arith
  never_first x y p (in_chain n i j k l m) e =
      let s : x.which ≡ y.source = ap (λ (v : Reference). v.source) e in
      let w : list_start o b x.which ≡ end_of o b y.which = ap (λ (v : Reference). v.which) e in
      let w' : list_start o b y.source ≡ end_of o b y.which = ap (list_start o b) (sym s) ∙ w in
      let f = nth_from o b y.source n in
      let a = end_after o b y.which in
      omega arith

  -- what comes after two references is the same only if they are
  same_after : (x y : Reference) → IsPlaced o b x → IsPlaced o b y → (references o b).after x ≡ (references o b).after y
      → x ≡ y
  same_after x y (at_top i j) (at_top i' j') e = (λ t. record { source = (i ∙ sym i') t; which = (j ∙ sym j') t })
  same_after x y (at_top i j) (in_chain n i' j' k l m) e = absurd (i' (sym (ap (λ (v : Reference). v.source) e) ∙ i))
  same_after x y (in_chain n i j k l m) (at_top i' j') e = absurd (i (ap (λ (v : Reference). v.source) e ∙ i'))
  same_after x y (in_chain n i j k l m) (in_chain n' i' j' k' l' m') e =
      let s : x.source ≡ y.source = ap (λ (v : Reference). v.source) e in
      let w : end_of o b x.which ≡ end_of o b y.which = ap (λ (v : Reference). v.which) e in
      let kx : end_of o b x.which ≡ nth o b y.source (suc n) =
      ap (end_of o b) k ∙ ap (λ (v : ℕ). nth o b v (suc n)) s in
      let same : suc n ≡ suc n' = nth_same o b y.source (suc n) (suc n') (sym kx ∙ w ∙ ap (end_of o b) k') in
      let same' : n ≡ n' = omega arith in
      let which : x.which ≡ y.which = k ∙ ap (λ (v : ℕ). nth o b v n) s ∙ ap (nth o b y.source) same' ∙ sym k' in
      (λ t. record { source = s t; which = which t })

  apart : (x y : Reference) (k l : Bool) → IsPlaced o b x → IsPlaced o b y
      → edge (references o b) k x ≡ edge (references o b) l y
      → (k ≡ l) × ((x ≡ y) ⊎ ((reference_target o b x ≡ reference_target o b y)
      × ((k ≡ true) ⊎ ((references o b).chained ≡ true))))
  apart x y true true p q e = (refl, inr (same_target x y p q (ap (λ (v : Reference). v.source) e), inl refl))
  apart x y true false p q e = absurd (never_first x y p q e)
  apart x y false true p q e = absurd (never_first y x q p (sym e))
  apart x y false false p q e = (refl, inl (same_after x y p q e))

  only_top : (x : Reference) (k : Bool) → IsPlaced o b x → edge (references o b) k x ≢ (references o b).top
  only_top x true p e =
      let z : x.which ≡ 0 = ap (λ (v : Reference). v.source) e in let a = placed_above x p in omega arith
  only_top x false (at_top i j) e = let z : end_of o b x.which ≡ 64 = ap (λ (v : Reference). v.which) e in let a =
      end_after o b x.which in omega arith
  only_top x false (in_chain n i j k l m) e = i (ap (λ (v : Reference). v.source) e)

-- the directory that a reached reference has as its source is among the bytes
module _ {o : Order} {b : List ℕ} where
  placed_end : (x : Reference) → IsPlaced o b x → x.source ≢ 0 → list_end o b x.source ≤ length b
  placed_end x (at_top i j) n = absurd (n i)
  placed_end x (in_chain n i j k l m) h = m

  pub sound_within : (z : Reference) → 76 ≤ length b → IsPlaced o b z → LeadsToSound o b z → z.which + 12 ≤ length b
  sound_within z long (at_top i j) s = omega arith
  sound_within z long (in_chain n i j k l m) s = let f = (s.entry i).fits.0 in omega arith

  pub source_within : (x : Reference) → 76 ≤ length b → Reached (references o b) (LeadsToSound o b) x → x.source ≢ 0
      → (x.source + 12 ≤ length b) × (list_end o b x.source ≤ length b)
  source_within x long r n = (lies x r n, placed_end x (reached_placed x r) n) where
    lies : (x : Reference) → Reached (references o b) (LeadsToSound o b) x → x.source ≢ 0 → x.source + 12 ≤ length b
    lies x (top e) n = absurd (n (ap (λ (v : Reference). v.source) e))
    lies x (more {x = z} reached sound true e live) n =
        let w = sound_within z long (reached_placed z reached) sound in
        let s : x.source ≡ z.which = ap (λ (v : Reference). v.source) (sym e) in
        omega arith
    lies x (more {x = z} reached sound false e live) n =
        let s : z.source ≡ x.source = ap (λ (v : Reference). v.source) e in
        let w = lies z reached (λ k. n (sym s ∙ k)) in
        omega arith

pub top_target : (o : Order) (b : List ℕ) → reference_target o b (references o b).top ≡ Some root_place
unfolding reference_target
top_target o b = refl

pub references_lawful : (o : Order) (b : List ℕ) → AreLawful (references o b) (LeadsToSound o b)
references_lawful o b = record {
  starts = rw (top_target o b) (search rules);
  only_top = λ x k h s l. only_top x k (reached_placed x h);
  own_joined = λ x y h i s t e. ap (λ (p : ℕ). let z : Reference = record { source = p; which = list_start o b p } in z)
      (same_which x y (reached_placed x h) (reached_placed y i) e);
  after_joined = λ c. absurd (false≢true c);
  apart = λ x y k l h i s t live e. apart x y k l (reached_placed x h) (reached_placed y i) e;
}
