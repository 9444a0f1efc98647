-- A name among sorted names.
use Rattle.std.proofs.Common.{◌≡◌, ◌∙◌, ℕ, true, false, List, refl, sym, ap}
use Rattle.std.proofs.lemmas.Bool.{true≢false}
use Rattle.std.proofs.lemmas.Cmp.{nat_list_cmp_total}
use Rattle.std.proofs.lemmas.Map.Lookups.{exact_bytes}
use Rattle.std.specs.Cmp.{IsTotalOrder}
use Rattle.std.specs.Cmp.Lexicographic.{slice_cmp}
use Rattle.std.specs.Ordering.{nat_cmp, ordering_reverse, is_lt}
use Rattle.std.specs.declared.cmp.Ordering.{Ordering}
use Rattle.std.specs.declared.cmp.Ordering.TheVariants.{Less, Equal, Greater}

abbrev pub compared : List ℕ → List ℕ → Ordering
compared = slice_cmp nat_cmp

less : (o : Ordering) → is_lt o ≡ true → o ≡ Less
less Less h = refl
less Equal h = absurd (true≢false (sym h))
less Greater h = absurd (true≢false (sym h))

less_decides : (o : Ordering) → o ≡ Less → is_lt o ≡ true
less_decides o e = ap is_lt e

-- what is no higher than a name that comes before t comes before t
pub before_too : (a b t : List ℕ) → is_lt (compared b a) ≡ false → is_lt (compared b t) ≡ true
    → is_lt (compared a t) ≡ true
before_too a b t up low_b = by_order (compared a t) refl
  where
    o : IsTotalOrder compared
    o = nat_list_cmp_total

    low : compared b t ≡ Less
    low = less (compared b t) low_b

    never : compared b a ≡ Less → ⊥
    never e = true≢false (sym (less_decides (compared b a) e) ∙ up)

    by_order : (r : Ordering) → compared a t ≡ r → is_lt (compared a t) ≡ true
    by_order Less e = ap is_lt e
    by_order Equal e = absurd (never (o.antisymm b a
        ∙ ap ordering_reverse (o.congr a t b e ∙ (o.antisymm t b ∙ ap ordering_reverse low))))
    by_order Greater e = absurd (never (o.trans b t a low (o.antisymm t a ∙ ap ordering_reverse e)))

-- what comes before t is not t
pub before_other : (a t : List ℕ) → is_lt (compared a t) ≡ true → a ≡ t → ⊥
before_other a t low e = true≢false (sym low
    ∙ (ap (λ (v : List ℕ). is_lt (compared v t)) e ∙ itself (compared t t) (nat_list_cmp_total.antisymm t t)))
  where
    itself : (r : Ordering) → r ≡ ordering_reverse r → is_lt r ≡ false
    itself Less e = absurd (cc)
    itself Equal e = refl
    itself Greater e = refl

-- Of what does not come before t and is not t, nothing that is no lower is t.
pub after_other : (a b t : List ℕ) → is_lt (compared a t) ≡ false → (a ≡ t → ⊥) → is_lt (compared b a) ≡ false → b ≡ t
    → ⊥
after_other a b t high other up e = by_order (compared a t) refl
  where
    o : IsTotalOrder compared
    o = nat_list_cmp_total

    by_order : (r : Ordering) → compared a t ≡ r → ⊥
    by_order Less f = true≢false (sym (less_decides (compared a t) f) ∙ high)
    by_order Equal f = other (exact_bytes a t f)
    by_order Greater f =
        let g : compared t a ≡ Less = o.antisymm t a ∙ ap ordering_reverse f in
        true≢false (sym (less_decides (compared b a) (ap (λ (v : List ℕ). compared v a) e ∙ g)) ∙ up)
