-- The references of a romfs image satisfy what the walk over records needs.
use Rattle.std.proofs.Common.{◌≡◌, ◌≢◌, ℕ, ◌<◌, Bool, true, false, List, None, Some, inl, inr, refl, sym, ap, ◌∙◌}
use Rattle.std.proofs.Common.{arith, rules}
use Rattle.std.proofs.lemmas.Bool.{ne_eqb}
use Rattle.std.proofs.lemmas.Bool.Decides.{eqb_tells}
use Rattle.record_forest.specs.declared.reference.Reference.{Reference}
use Rattle.record_forest.specs.References.{AreLawful, edge, IsLive}
use Rattle.romfs_format.specs.Refers.{references, reference_offset, list_of, following, some_offset, LeadsToSound}

-- the two references of a record
pub own_list : (b : List ℕ) (r p : ℕ) → p ≢ 0 → reference_offset b r (record { source = p; which = 0 }) ≡ list_of b r p
unfolding reference_offset
own_list b r p live = rw (ne_eqb p 0 live) refl

pub after_following : (b : List ℕ) (r p : ℕ) → p ≢ 0
    → reference_offset b r (record { source = p; which = 1 }) ≡ following b r p
unfolding reference_offset
after_following b r p live = rw (ne_eqb p 0 live) refl

pub same_offset : (p q : ℕ) → some_offset p ≡ some_offset q → p ≡ q
same_offset p q e = elim (eqb_tells p 0) [
  | inl h ↦ elim (eqb_tells q 0) [
    | inl k ↦ h.1 ∙ sym k.1
    | inr k ↦ let z : None
        ≡ Some q = (rw (h.0, k.0) at e) in absurd (cc)
  ]
  | inr h ↦ elim (eqb_tells q 0) [
    | inl k ↦ let z : Some p
        ≡ None = (rw (h.0, k.0) at e) in absurd (cc)
    | inr k ↦ let z : Some p ≡ Some q = (rw (h.0, k.0) at e) in cc
  ]
]

-- a reference that follows from one to a valid record has that record as its source
link_source : (b : List ℕ) (r : ℕ) (k : Bool) (x : Reference)
    → (edge (references b r) k x).source ≡ reference_offset b r x
link_source b r true x = refl
link_source b r false x = refl

differ : (x y : Reference) → x.which ≡ 0 → y.which ≡ 1 → x ≡ y → ⊥
differ x y e f g = let z : x.which ≡ y.which = ap (λ (v : Reference). v.which) g in omega arith

which_kind : (b : List ℕ) (r : ℕ) (k l : Bool) (x y : Reference) → edge (references b r) k x ≡ edge (references b r) l y
    → k ≡ l
which_kind b r true true x y e = refl
which_kind b r true false x y e =
    absurd (differ (edge (references b r) true x) (edge (references b r) false y) refl refl e)
which_kind b r false true x y e =
    absurd (differ (edge (references b r) true y) (edge (references b r) false x) refl refl (sym e))
which_kind b r false false x y e = refl

top_live : (b : List ℕ) (r : ℕ) → 0 < r → IsLive (references b r) (references b r).top
unfolding reference_offset
top_live b r above = let n : r ≢ 0 = λ z. omega arith in rw (ne_eqb r 0 n) (search rules)

pub references_lawful : (b : List ℕ) (r : ℕ) → 0 < r → AreLawful (references b r) (LeadsToSound b r)
references_lawful b r above = record {
  starts = top_live b r above;
  only_top = λ x k h s l e.
      let z : reference_offset b r x ≡ 0 = sym (link_source b r k x) ∙ ap (λ (v : Reference). v.source) e in
      let w = s.from_root in
      omega arith;
  own_joined = λ x y h i s t e. ap (λ (o : ℕ). let z : Reference = record { source = o; which = 0 } in z)
      (same_offset (reference_offset b r x) (reference_offset b r y) e);
  after_joined = λ c x y h i s t e. ap (λ (o : ℕ). let z : Reference = record { source = o; which = 1 } in z)
      (same_offset (reference_offset b r x) (reference_offset b r y) e);
  apart = λ x y k l h i s t live e. (
    which_kind b r k l x y e,
    inr (
      ap some_offset (sym (link_source b r k x) ∙ ap (λ (v : Reference). v.source) e ∙ link_source b r l y),
      inr refl,
    ),
  );
}
