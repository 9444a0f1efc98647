-- The spots of sources, while the sections of a plan are gone over.
use Rattle.std.proofs.Common.{◌≡◌, ◌==◌, cond, ℕ, zero, suc, ◌+◌, ◌<◌, List, [], ◌∷◌, Option, Some, None}
use Rattle.std.proofs.Common.{drop, get_or, length, set, inl, inr, refl, sym, ap, ◌∙◌, arith}
use Rattle.std.proofs.lemmas.Bool.Decides.{eqb_tells}
use Rattle.std.proofs.lemmas.List.{drop_more, get_or-set_same, get_or-set_other, length-set}
use Rattle.manifest_tree.specs.Items.{Body, Section, super, record_of, table_of, text_of, contents_of}
use Rattle.manifest_layout.specs.Plans.{section_at}
use Rattle.build_commands.specs.Programs.{holds, spot_from, spot_of, spots_by, with_spot}
use Rattle.build_commands.specs.declared.programs.Spot.{Spot}

first_dropped : (ss : List Section) (i : ℕ) → section_at (drop i ss) 0 ≡ section_at ss i
first_dropped [] zero = refl
first_dropped [] (suc i) = refl
first_dropped (s ∷ ss) zero = refl
first_dropped (s ∷ ss) (suc i) = first_dropped ss i

-- the section at an index is among those that are left, the first of them
at_is : (ss : List Section) (i : ℕ) (s : Section) → section_at ss i ≡ Some s → get_or ss i s ≡ s
at_is [] i s e = absurd cc
at_is (t ∷ ss) zero s e = cc
at_is (t ∷ ss) (suc i) s e = at_is ss i s e

within : (ss : List Section) (i : ℕ) (s : Section) → section_at ss i ≡ Some s → i < length ss
within [] i s e = absurd cc
within (t ∷ ss) zero s e = omega arith
within (t ∷ ss) (suc i) s e = omega (arith, within ss i s e)

at_dropped : (ss : List Section) (i : ℕ) (s : Section) → section_at ss i ≡ Some s → drop i ss ≡ s ∷ drop (i + 1) ss
at_dropped ss i s e =
    drop_more ss i s (within ss i s e) ∙ ap (λ (t : Section). t ∷ drop (i + 1) ss) (at_is ss i s e)

pub none_within : (ss : List Section) (i : ℕ) → section_at ss i ≡ None → i < length ss → ⊥
none_within [] i e l = absurd (omega (arith, l))
none_within (s ∷ ss) zero e l = absurd cc
none_within (s ∷ ss) (suc i) e l = none_within ss i e (omega (arith, l))

set_at : (spots : List Spot) (k file : ℕ) (v d : Spot) → file < length spots
    → get_or (set spots k v) file d ≡ cond (k == file) v (get_or spots file d)
set_at spots k file v d l =
    elim (eqb_tells k file) [
      | inl e ↦ rw (e.0, e.1) (get_or-set_same spots file v d l)
      | inr n ↦ rw n.0 (get_or-set_other spots k file v d (λ e. n.1 (sym e)))
    ]

by_body : (b : Body) (spots : List Spot) (v : Spot) (file : ℕ) (d : Spot) → file < length spots
    → get_or (spots_by b spots v) file d ≡ cond (holds file b) v (get_or spots file d)
by_body super spots v file d l = refl
by_body (record_of k) spots v file d l = refl
by_body (table_of k) spots v file d l = refl
by_body (text_of k) spots v file d l = refl
by_body (contents_of k) spots v file d l = set_at spots k file v d l

same_length : (b : Body) (spots : List Spot) (v : Spot) → length (spots_by b spots v) ≡ length spots
same_length super spots v = refl
same_length (record_of k) spots v = refl
same_length (table_of k) spots v = refl
same_length (text_of k) spots v = refl
same_length (contents_of k) spots v = length-set spots k v

pub size_kept : (spots : List Spot) (s : Section) (next : Option Section)
    → length (with_spot spots s next) ≡ length spots
size_kept spots s next = same_length s.body spots (spot_of s next)

-- one section more
pub spot_more : (ss : List Section) (old new : List Spot) (i : ℕ) (s : Section) (file : ℕ) (d r : Spot)
    → section_at ss i ≡ Some s → new ≡ with_spot old s (section_at ss (i + 1)) → file < length old
    → spot_from file (get_or old file d) (drop i ss) ≡ r → spot_from file (get_or new file d) (drop (i + 1) ss) ≡ r
spot_more ss old new i s file d r at is l h =
    ap (λ (v : List Spot). spot_from file (get_or v file d) (drop (i + 1) ss)) is
    ∙ ap (λ (v : Spot). spot_from file v (drop (i + 1) ss))
    (by_body s.body old (spot_of s (section_at ss (i + 1))) file d l)
    ∙ ap (λ (n : Option Section). spot_from file (cond (holds file s.body) (spot_of s n) (get_or old file d))
    (drop (i + 1) ss))
    (sym (first_dropped ss (i + 1)))
    ∙ sym (ap (spot_from file (get_or old file d)) (at_dropped ss i s at))
    ∙ h
