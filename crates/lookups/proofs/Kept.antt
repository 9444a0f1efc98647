-- The indices that are kept, and their answers.
use Rattle.std.proofs.Common.{◌≡◌, ◌≢◌, ◌∙◌, ℕ, true, false, Some, Vec, ◌⊎◌, inl, inr, Result, Ok, Err, OnOk, refl, sym}
use Rattle.std.proofs.Common.{subst, arith}
use Rattle.std.proofs.lemmas.Bool.{cases_lt, lt-ltb, le-ltb, false≢true}
use Rattle.std.proofs.lemmas.Bool.Decides.{eqb_tells}
use Rattle.std.specs.BTreeMap.{BTreeMap, get, Updates, is_at}
use Rattle.std.specs.Ordering.{nat_cmp}
use Rattle.std.specs.Result.{is_err}
use Rattle.rom_tree.specs.Tree.{Entries}
use Rattle.lookups.specs.declared.rows.NamedNode.{NamedNode}
use Rattle.lookups.specs.Indices.{IsIndexOf, AreIndices}

at_decides : (p q : ℕ) → ((is_at (nat_cmp p) q ≡ true) × (p ≡ q)) ⊎ ((is_at (nat_cmp p) q ≡ false) × (p ≢ q))
at_decides p q =
    elim (eqb_tells p q) [
      | inl e ↦ inl (rw (le-ltb p q (omega arith), e.0) refl, e.1)
      | inr n ↦ elim (cases_lt p q) [
        | inl l ↦ inr (rw (lt-ltb p q l) refl, n.1)
        | inr l ↦ inr
            (rw (le-ltb p q l, n.0) refl, n.1)
      ]
    ]

same_value : {A : Type 0} (a b : A) → Some a ≡ Some b → a ≡ b
same_value a b h = cc

-- the meaning of an answer that is no error
pub not_err : {V E : Type 0} (r : Result V E) (P : Type 0) → OnOk r P → false ≡ is_err r → P
not_err (Ok v) P h e = h
not_err (Err v) P h e = absurd (false≢true e)

-- one more index
pub kept_more : {A : Type 0} (list : ℕ → Entries) (m n : BTreeMap ℕ (Vec NamedNode A)) (k : ℕ) (v : Vec NamedNode A)
    → AreIndices list m → IsIndexOf (list k) v.items → Updates nat_cmp m n k (Some v) → AreIndices list n
kept_more list m n k v old is u d rows h = elim (at_decides k d) [
  | inl w ↦
      let got : get nat_cmp n d ≡ Some v = u.0 d ∙ rw w.0 refl in
      let same : v ≡ rows = same_value v rows (sym got ∙ h) in
      subst (λ r. IsIndexOf (list d) r.items) same (subst (λ (e : ℕ). IsIndexOf (list e) v.items) w.1 is)
  | inr w ↦ (let got : get nat_cmp n d ≡ get nat_cmp m d = u.0 d ∙ rw w.0 refl in old d rows (sym got ∙ h))
]
