-- One look for a conflict at extents whose starts do not fall.
use Rattle.std.proofs.Common.{◌≡◌, ℕ, ◌+◌, ◌%◌, ◌<◌, ◌≤◌, max, None, Some, List, length, get_or, ◌⊎◌, inl, inr, refl}
use Rattle.std.proofs.Common.{sym}
use Rattle.std.proofs.Common.{ap, subst, ◌∙◌, arith}
use Rattle.std.proofs.Math.Nat.{max-eq_right}
use Rattle.std.proofs.lemmas.Bool.{cases_lt}
use Rattle.std.specs.List.Sorted.{IsNonDecreasingBy}
use Rattle.rom_fields.specs.declared.span.Span.{Span}
use Rattle.rom_fields.specs.Extents.{AreShared, HaveCommonByte, IsLeastOf}
use Rattle.cramfs_image.specs.Merged.{IsRun, AreInStep, Conflict, Clash, ConflictsAt}
use Rattle.cramfs_image.proofs.Pairing.{blank, Pair, pair_from, pair_to, conflict_back}

-- Of the first i extents no two overlap, and f is one that reaches furthest.
pub record Looked (xs : List Span) (i : ℕ) (f : Span) : Type 0 where
  pub clear : (j k : ℕ) → (j ≡ k → ⊥) → j < i → k < i → Conflict (get_or xs j blank) (get_or xs k blank) → ⊥
  pub furthest : (k : ℕ) → k < i → (get_or xs k blank).start + (get_or xs k blank).len ≤ f.start + f.len
  pub found : (f ≡ blank) ⊎ ((k : ℕ) × (k < i) × (get_or xs k blank ≡ f))

pub look_start : (xs : List Span) → Looked xs 0 blank
look_start xs =
    record { clear = λ j k n l m o. absurd (omega arith); furthest = λ k l. absurd (omega arith); found = inl refl }

shared_on : (x y z : Span) → AreShared x y → AreShared y z → AreShared x z
shared_on x y z s t =
    record { kind = s.kind ∙ t.kind; shareable = s.shareable; start = s.start ∙ t.start; len = s.len ∙ t.len }

-- both are shared, or runs in step
abbrev Compatible : Span → Span → Type 0
Compatible x y = AreShared x y ⊎ AreInStep x y

run_on : (x y : Span) → AreShared x y → IsRun y → IsRun x
run_on x y s r =
    record { data_kind = s.kind ∙ r.data_kind; whole = ap (λ (v : ℕ). v % 4096) s.len ∙ r.whole }

run_back : (x y : Span) → AreShared x y → IsRun x → IsRun y
run_back x y s r =
    record { data_kind = sym s.kind ∙ r.data_kind; whole = ap (λ (v : ℕ). v % 4096) (sym s.len) ∙ r.whole }

compatible_on : (x y z : Span) → Compatible x y → Compatible y z → Compatible x z
compatible_on x y z (inl s) (inl t) = inl (shared_on x y z s t)
compatible_on x y z (inl s) (inr t) =
    inr (record { one = run_on x y s t.one; other = t.other; step = ap (λ (v : ℕ). v % 4096) s.start ∙ t.step })
compatible_on x y z (inr s) (inl t) =
    inr (record { one = s.one; other = run_back y z t s.other; step = s.step ∙ ap (λ (v : ℕ). v % 4096) t.start })
compatible_on x y z (inr s) (inr t) = inr (record { one = s.one; other = t.other; step = s.step ∙ t.step })

conflict_of : (x y : Span) → HaveCommonByte x y → (Compatible x y → ⊥) → Conflict x y
conflict_of x y c n = ((c, λ s. n (inl s)), λ s. n (inr s))

never : (x y : Span) → Conflict x y → Compatible x y → ⊥
never x y c (inl s) = c.0.1 s
never x y c (inr s) = c.1 s

-- an earlier extent in conflict with one with which the furthest is not
none_meets : (xs : List Span) (i : ℕ) (f : Span) → IsNonDecreasingBy (λ (x : Span). x.start) xs → i < length xs
    → Looked xs i f → (Conflict f (get_or xs i blank) → ⊥)
    → (j : ℕ) → j < i → Conflict (get_or xs j blank) (get_or xs i blank) → ⊥
none_meets xs i f up l w misses j m o =
    let x : Span = get_or xs i blank in
    let y : Span = get_or xs j blank in
    let before : y.start ≤ x.start = up j i blank (omega arith) l in
    let q = o.0.0 in
    let reach : x.start < y.start + y.len = (let a = q.1 in let b = q.2 in omega arith) in
    let some : x.start < x.start + x.len = (let b = q.2 in omega arith) in
    let far : x.start < f.start + f.len = (let h = w.furthest j m in omega arith) in
    elim w.found [
      | inl e ↦ (let u : f.start + f.len ≡ 0 = ap (λ (v : Span). v.start + v.len) e in absurd (omega arith))
      | inr k ↦
          let first : f.start ≤ x.start =
          subst (λ (v : Span). v.start ≤ x.start) k.2 (up k.0 i blank (let h = k.1 in omega arith) l) in
          misses (conflict_of f x (x.start, (first, far), (omega arith, some)) (λ s.
          let other : Compatible y f → ⊥ = λ t. never y x o (compatible_on y f x t s) in
          let both : Conflict y f = conflict_of y f (x.start, (before, reach), (first, far)) other in
          let apart : j ≡ k.0 → ⊥ = λ e. never y x o
          (subst (λ (v : Span). Compatible v x) (sym (ap (λ (n : ℕ). get_or xs n blank) e ∙ k.2)) s) in
          w.clear j k.0 apart m k.1 (subst (Conflict y) (sym k.2) both)))
    ]

-- one extent further
pub look_more : (xs : List Span) (i : ℕ) (f g : Span) → IsNonDecreasingBy (λ (x : Span). x.start) xs → i < length xs
    → Looked xs i f → (Conflict f (get_or xs i blank) → ⊥)
    → ((g ≡ get_or xs i blank) × (f.start + f.len ≤ (get_or xs i blank).start + (get_or xs i blank).len))
    ⊎ ((g ≡ f) × ((get_or xs i blank).start + (get_or xs i blank).len ≤ f.start + f.len))
    → Looked xs (i + 1) g
look_more xs i f g up l w misses c = record {
  clear = λ j k n a b o. elim (cases_lt j i) [
    | inl u ↦ elim (cases_lt k i) [
      | inl v ↦ w.clear j k n u v o
      | inr v ↦ let e : k ≡ i = omega arith in none_meets xs i f up l w misses j u
          (subst (λ (m : ℕ). Conflict (get_or xs j blank) (get_or xs m blank)) e o)
    ]
    | inr u ↦
        let e : j ≡ i = omega arith in
        let m : k < i = (let d : k ≡ i → ⊥ = (λ h. n (omega arith)) in omega arith) in
        none_meets xs i f up l w misses k m
        (conflict_back (get_or xs i blank) (get_or xs k blank)
        (subst (λ (v : ℕ). Conflict (get_or xs v blank) (get_or xs k blank)) e o))
  ];
  furthest = λ k b. reach k b;
  found = elim c [
    | inl h ↦ inr (i, omega arith, sym h.0)
    | inr h ↦ elim w.found [ inl e ↦ inl (h.0 ∙ e) | inr k ↦ inr (k.0, (let m = k.1 in omega arith), k.2 ∙ sym h.0) ]
  ];
}
  where
    top : ((get_or xs i blank).start + (get_or xs i blank).len ≤ g.start + g.len) × (f.start + f.len ≤ g.start + g.len)
    top = elim c [
      | inl h ↦ let e : g.start + g.len ≡ (get_or xs i blank).start + (get_or xs i blank).len =
          ap (λ (v : Span). v.start + v.len) h.0 in (omega arith, (let u = h.1 in omega arith))
      | inr h ↦ let e : g.start + g.len ≡ f.start + f.len =
          ap (λ (v : Span). v.start + v.len) h.0 in ((let u = h.1 in omega arith), omega arith)
    ]

    reach : (k : ℕ) → k < i + 1 → (get_or xs k blank).start + (get_or xs k blank).len ≤ g.start + g.len
    reach k b = elim (cases_lt k i) [
      | inl v ↦ (let h = w.furthest k v in let t = top.1 in omega arith)
      | inr v ↦ (let e : k ≡ i = omega arith in subst
          (λ (m : ℕ). (get_or xs m blank).start + (get_or xs m blank).len ≤ g.start + g.len) (sym e) top.0)
    ]

-- the first one that the furthest before it overlaps
pub look_found : (xs : List Span) (i : ℕ) (f : Span) → IsNonDecreasingBy (λ (x : Span). x.start) xs → i < length xs
    → Looked xs i f → Conflict f (get_or xs i blank) → IsLeastOf (ConflictsAt xs) (Some (get_or xs i blank).start)
look_found xs i f up l w o = record {
  here = elim w.found [
    | inl e ↦ (let q = subst (λ (v : Span). HaveCommonByte v (get_or xs i blank)) e o.0.0 in let a = q.1 in absurd
        (omega arith))
    | inr k ↦
        let first : f.start ≤ (get_or xs i blank).start =
        subst (λ (v : Span). v.start ≤ (get_or xs i blank).start) k.2
        (up k.0 i blank (let h = k.1 in omega arith) l) in
        let m = k.1 in
        pair_to xs (get_or xs i blank).start k.0 i (λ e. (omega arith)) (omega arith) l
        (subst (λ (v : Span). Clash (get_or xs i blank).start v (get_or xs i blank)) (sym k.2)
        (o, (let z = max-eq_right first in sym z)))
  ];
  least = λ p h. (let k = pair_from xs p h in past p k);
}
  where
    past : (p : ℕ) → Pair xs p → (get_or xs i blank).start ≤ p
    past p k =
        let e : p ≡ max (get_or xs k.i blank).start (get_or xs k.j blank).start = k.hit.1 in
        elim (cases_lt k.i i) [
          | inl u ↦ elim (cases_lt k.j i) [
            | inl v ↦ absurd (w.clear k.i k.j k.apart u v k.hit.0)
            | inr v ↦ (let h = up i k.j blank v k.other_in in omega arith)
          ]
          | inr u ↦ (let h = up i k.i blank u k.one_in in omega arith)
        ]

-- none does
pub look_end : (xs : List Span) (i : ℕ) (f : Span) → i ≡ length xs → Looked xs i f → IsLeastOf (ConflictsAt xs) None
look_end xs i f e w = record {
  here = tt;
  least = λ p h. (let k = pair_from xs p h in let a = k.one_in in let b = k.other_in in absurd
      (w.clear k.i k.j k.apart (omega arith) (omega arith) k.hit.0));
}
