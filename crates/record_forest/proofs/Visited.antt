-- The set of the offsets that a traversal has found.
use Rattle.std.proofs.Common.{◌≡◌, ◌≢◌, ℕ, Bool, true, false, not, List, [], ◌∷◌, ◌++◌, ◌||◌, ◌↔◌, ◌⊎◌, inl, inr, refl}
use Rattle.std.proofs.Common.{sym, ap, subst, ◌∙◌, arith}
use Rattle.std.proofs.lemmas.Bool.{cases_lt, lt-ltb, le-ltb, true≢false, false≢true}
use Rattle.std.proofs.lemmas.Bool.Decides.{eqb_tells}
use Rattle.std.specs.BTreeSet.{BTreeSet, contains, Updates}
use Rattle.std.specs.Ordering.{nat_cmp}
use Rattle.std.specs.Bool.{OnFalse}
use Rattle.std.specs.List.{list_any}
use Rattle.std.specs.BTreeMap.{is_at}
use Rattle.record_forest.specs.declared.reference.Row.{Row}
use Rattle.record_forest.specs.Members.{Has}
use Rattle.record_forest.proofs.Lists.{has_left, has_right, has_cases}
use Rattle.record_forest.proofs.Found.{At}

-- the set has the offsets of the rows
abbrev pub Visits : BTreeSet ℕ → List Row → Type 0
Visits s found = (p : ℕ) → (contains nat_cmp s p ≡ true) ↔ Has (At p) found

at_decides : (p q : ℕ) → ((is_at (nat_cmp p) q ≡ true) × (p ≡ q)) ⊎ ((is_at (nat_cmp p) q ≡ false) × (p ≢ q))
at_decides p q =
    elim (eqb_tells p q) [
      | inl e ↦ inl (rw (le-ltb p q (omega arith), e.0) refl, e.1)
      | inr n ↦ elim (cases_lt p q) [
        | inl l ↦ inr (rw (lt-ltb p q l) refl, n.1)
        | inr l ↦ inr
            (rw (le-ltb p q l, n.0) refl, n.1)
      ]
    ]

-- one more offset and its row
pub visits_more : (s n : BTreeSet ℕ) (found : List Row) (x : Row) → Visits s found → Updates nat_cmp s n x.offset true
    → Visits n (found ++ x ∷ [])
visits_more s n found x h u p =
    let is = u.0 p in
    elim (at_decides x.offset p) [
      | inl e ↦ ((λ _. has_right (At p) found (x ∷ []) (inl e.1)), (λ _. is ∙ rw e.0 refl))
      | inr e ↦
          let old : contains nat_cmp n p ≡ contains nat_cmp s p = is ∙ rw e.0 refl in (
            (λ k. has_left (At p) found (x ∷ []) ((h p).0 (sym old ∙ k))),
            (λ k. elim (has_cases (At p) found (x ∷ []) k)
                [ inl i ↦ old ∙ (h p).1 i | inr i ↦ elim i [ inl j ↦ absurd (e.1 j) | inr j ↦ absurd j ] ]),
          )
    ]

-- the first offset
pub visits_start : (s : BTreeSet ℕ) (x : Row) → s.keys ≡ x.offset ∷ [] → Visits s (x ∷ [])
visits_start s x e p =
    let is : contains nat_cmp s p ≡ is_at (nat_cmp p) x.offset || false = ap (list_any (is_at (nat_cmp p))) e in
    elim (at_decides p x.offset) [
      | inl t ↦ ((λ _. inl (sym t.1)), (λ _. is ∙ rw t.0 refl))
      | inr t ↦ (
        (λ k. absurd (false≢true (sym (is ∙ rw t.0 refl) ∙ k))),
        (λ k. elim k [ inl i ↦ absurd (t.1 (sym i)) | inr i ↦ absurd i ]),
      )
    ]

-- no offset is new
pub visits_same : (s n : BTreeSet ℕ) (found : List Row) (added : Bool) → Visits s found → added ≡ false
    → OnFalse added (n.keys ≡ s.keys) → Visits n found
visits_same s n found added h unadded same p =
    let e = subst (λ (b : Bool). OnFalse b (n.keys ≡ s.keys)) unadded same in
    let is : contains nat_cmp n p ≡ contains nat_cmp s p = ap (list_any (is_at (nat_cmp p))) e in
    ((λ k. (h p).0 (sym is ∙ k)), (λ k. is ∙ (h p).1 k))

-- what the insertion of an offset tells
pub visits_fresh : (s : BTreeSet ℕ) (found : List Row) (p : ℕ) → Visits s found → true ≡ not (contains nat_cmp s p)
    → Has (At p) found → ⊥
visits_fresh s found p h e k = true≢false (e ∙ ap not ((h p).1 k))

pub visits_old : (s : BTreeSet ℕ) (found : List Row) (p : ℕ) → Visits s found → false ≡ not (contains nat_cmp s p)
    → Has (At p) found
visits_old s found p h e = (h p).0 (old (contains nat_cmp s p) e)
  where
    old : (t : Bool) → false ≡ not t → t ≡ true
    old true e = refl
    old false e = absurd (false≢true e)
