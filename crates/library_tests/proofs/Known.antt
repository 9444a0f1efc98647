-- The directories of the tree that the lister of the tests reports: `t`, and `a` in it.
use Rattle.std.proofs.Common.{◌≡◌, ◌⊎◌, inl, inr, ℕ, Bool, true, false, List, [], ◌∷◌, ◌++◌, refl, sym, ◌∙◌, ap, subst}
use Rattle.std.proofs.lemmas.Bool.{false≢true}
use Rattle.directory_walk.specs.Trees.{Tree, Nil, Leaf, Branch, IsChild, IsIn, itself, inside}

abbrev pub top : List ℕ
top = 116 ∷ []

abbrev pub within : List ℕ
within = 116 ∷ 47 ∷ 97 ∷ []

abbrev pub inner : Tree Bool
inner = Leaf (98 ∷ []) false Nil

abbrev pub outer : Tree Bool
outer = Leaf (122 ∷ []) false (Branch (97 ∷ []) true inner Nil)

abbrev pub IsKnown : List ℕ → Tree Bool → Type 0
IsKnown p g = ((p ≡ top) × (g ≡ outer)) ⊎ ((p ≡ within) × (g ≡ inner))

child : (p : List ℕ) (g : Tree Bool) (q : List ℕ) (i : Tree Bool) → IsKnown p g → IsChild p g q i → IsKnown q i
child p g q i (inl is) c =
    other (subst (λ (h : Tree Bool). IsChild p h q i) is.1 c) is.0 where
      other : IsChild p outer q i → p ≡ top → IsKnown q i
      other (inl it) same = inr (subst (λ (l : List ℕ). q ≡ (l ++ 47 ∷ 97 ∷ [])) same it.0, it.1)
      other (inr none) same = absurd none
child p g q i (inr is) c = absurd (subst (λ (h : Tree Bool). IsChild p h q i) is.1 c)

pub known : (p : List ℕ) (g : Tree Bool) → IsIn top outer p g → IsKnown p g
known p g itself = inl (refl, refl)
known _ _ (inside p g q i h c) = child p g q i (known p g h) c

-- what a test of the path says, by its values for both
pub is_top : (test : List ℕ → Bool) (p : List ℕ) (g : Tree Bool) → test within ≡ false → true ≡ test p → IsKnown p g
    → (p ≡ top) × (g ≡ outer)
is_top test p g other same (inl is) = is
is_top test p g other same (inr is) = absurd (false≢true (sym other ∙ ap test (sym is.0) ∙ sym same))

pub is_within : (test : List ℕ → Bool) (p : List ℕ) (g : Tree Bool) → test top ≡ true → false ≡ test p → IsKnown p g
    → (p ≡ within) × (g ≡ inner)
is_within test p g same other (inl is) = absurd (false≢true (other ∙ ap test is.0 ∙ same))
is_within test p g same other (inr is) = is
