-- One step along hard links.
use Rattle.std.proofs.Common.{◌≡◌, ◌≢◌, ℕ, zero, suc, Bool, true, false, eqb, None, Some, List, [], ◌∷◌, refl, subst}
use Rattle.std.proofs.Common.{inl, inr}
use Rattle.std.proofs.lemmas.Bool.{ne_eqb, eq-eqb, false≢true}
use Rattle.std.proofs.lemmas.Bool.Decides.{eqb_tells}
use Rattle.std.proofs.lemmas.List.Elements.{All-head, All-tail}
use Rattle.std.specs.List.{All, list_any}
use Rattle.romfs_format.specs.Record.{type_of, spec_offset_of, IsSound}
use Rattle.romfs_format.specs.Tree.{follow}
use Rattle.record_forest.specs.declared.reference.Row.{Row}

abbrev pub Is : ℕ → Row → Bool
Is t x = eqb x.offset t

pub step_done : (b : List ℕ) (all : List Row) (n p : ℕ) → type_of b p ≢ 0 → follow b all n p ≡ Some p
unfolding follow
step_done b all zero p e = rw (ne_eqb (type_of b p) 0 e) refl
step_done b all (suc n) p e = rw (ne_eqb (type_of b p) 0 e) refl

pub step_lost : (b : List ℕ) (all : List Row) (n p t : ℕ) → type_of b p ≡ 0 → t ≡ spec_offset_of b p
    → list_any (Is t) all ≡ false → follow b all n p ≡ None
unfolding follow
step_lost b all zero p t e f g = rw (eq-eqb (type_of b p) 0 e) refl
step_lost b all (suc n) p t e f g = rw (eq-eqb (type_of b p) 0 e, ← f, g) refl

pub step_more : (b : List ℕ) (all : List Row) (n p t : ℕ) → type_of b p ≡ 0 → t ≡ spec_offset_of b p
    → list_any (Is t) all ≡ true → follow b all (suc n) p ≡ follow b all n t
unfolding follow
step_more b all n p t e f g = rw (eq-eqb (type_of b p) 0 e, ← f, g) refl

pub step_end : (b : List ℕ) (all : List Row) (p : ℕ) → type_of b p ≡ 0 → follow b all 0 p ≡ None
unfolding follow
step_end b all p e = rw (eq-eqb (type_of b p) 0 e) refl

pub row_sound : (b : List ℕ) (r t : ℕ) (all : List Row) → All (λ (y : Row). IsSound b r y.offset) all
    → list_any (Is t) all ≡ true → IsSound b r t
row_sound b r t [] h e = absurd (false≢true e)
row_sound b r t (x ∷ xs) h e =
    elim (eqb_tells x.offset t) [
      | inl k ↦ subst (IsSound b r) k.1 (All-head (λ (x : Row). IsSound b r x.offset) x xs h)
      | inr k ↦ row_sound b r t xs (All-tail (λ (x : Row). IsSound b r x.offset) x xs h) (rw k.0 at e)
    ]
