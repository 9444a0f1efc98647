-- The groups of files with equal keys, one key more at a time.
use Rattle.std.proofs.Common.{◌≡◌, ℕ, ◌+◌, ◌≤◌, Bool, true, false, cond, List, [], ◌∷◌, map}
use Rattle.std.proofs.Common.{suc, length, drop, Option, Some, None, refl, sym, ap, ap₂, ◌∙◌, arith}
use Rattle.std.specs.Prelude.{nat_lt, ◌||◌}
use Rattle.std.specs.Option.{is_some}
use Rattle.std.proofs.lemmas.Bool.{cases_Bool}
use Rattle.std.proofs.lemmas.Bool.Decides.{nat_tests}
use Rattle.std.proofs.lemmas.List.{drop_all}
use mathlib.Core.Logic.{⊎_elim}
use Rattle.build_commands.specs.Equal.{count, first_index, first_of, is_key, is_shared}
use Rattle.build_commands.specs.Grouping.{group_of, grown}
use Rattle.build_commands.specs.declared.equal.Group.{Group}

-- what becomes of the group of q by the keys from an index on
abbrev pub grouped : {K : Type 0} → (K → K → Bool) → K → ℕ → Option Group → List (Option K) → Option Group
grouped same q i g [] = g
grouped same q i g (k ∷ ks) = grouped same q (i + 1) (cond (is_key same q k) (Some (grown g i)) g) ks

abbrev group : ℕ → Bool → Group
group first is_shared = record { first = first; is_shared = is_shared }

less_more : (n : ℕ) → nat_lt 0 n ≡ nat_lt 1 (suc n)
less_more n = grind (arith, nat_tests)

some_more : (n : ℕ) → true ≡ nat_lt 0 (suc n)
some_more n = grind (arith, nat_tests)

either_true : (b : Bool) → true ≡ (b || true)
either_true true = refl
either_true false = refl

either_false : (b : Bool) → b ≡ (b || false)
either_false true = refl
either_false false = refl

here : (i n : ℕ)
    → Some (group i (nat_lt 0 n)) ≡ cond (nat_lt 0 (suc n)) (Some (group (i + 0) (nat_lt 1 (suc n)))) None
here i n =
    ap₂ (λ (k : ℕ) (b : Bool). Some (group k b)) (omega arith) (less_more n)
    ∙ ap (λ (b : Bool). cond b (Some (group (i + 0) (nat_lt 1 (suc n)))) None) (some_more n)

module _ {K : Type 0} (same : K → K → Bool) (q : K) where
  -- a group that is there gets more files
  more_of : (i : ℕ) (g : Group) (ks : List (Option K))
      → grouped same q i (Some g) ks ≡ Some (group g.first (g.is_shared || nat_lt 0 (count same q ks)))
  more_of i g [] = ap (λ (b : Bool). Some (group g.first b)) (either_false g.is_shared)
  more_of i g (k ∷ ks) =
      ⊎_elim
      (λ (t : is_key same q k ≡ true). rw t
      (more_of (i + 1) (group g.first true) ks
      ∙ ap (λ (b : Bool). Some (group g.first b))
      (either_true g.is_shared ∙ ap (λ (b : Bool). g.is_shared || b) (some_more (count same q ks)))))
      (λ (t : is_key same q k ≡ false). rw t (more_of (i + 1) g ks))
      (cases_Bool (is_key same q k))

  -- or there is none yet
  all_of : (i : ℕ) (ks : List (Option K))
      → grouped same q i None ks
      ≡ cond (nat_lt 0 (count same q ks))
      (Some (group (i + first_index same q ks) (nat_lt 1 (count same q ks)))) None
  all_of i [] = refl
  all_of i (k ∷ ks) =
      ⊎_elim
      (λ (t : is_key same q k ≡ true). rw t (more_of (i + 1) (group i false) ks ∙ here i (count same q ks)))
      (λ (t : is_key same q k ≡ false). rw t
      (all_of (i + 1) ks
      ∙ ap (λ (n : ℕ). cond (nat_lt 0 (count same q ks)) (Some (group n (nat_lt 1 (count same q ks)))) None)
      (omega arith)))
      (cases_Bool (is_key same q k))

  groups_are : (ks : List (Option K)) → grouped same q 0 None ks ≡ group_of same ks q
  groups_are ks =
      all_of 0 ks
      ∙ ap (λ (n : ℕ). cond (nat_lt 0 (count same q ks)) (Some (group n (nat_lt 1 (count same q ks)))) None)
      (omega arith)

-- behind the last key
pub all_grouped : {K : Type 0} (same : K → K → Bool) (q : K) (keys : List (Option K)) (i : ℕ) (g : Option Group)
    → length keys ≤ i → grouped same q i g (drop i keys) ≡ grouped same q 0 None keys → g ≡ group_of same keys q
all_grouped same q keys i g all h =
    sym (ap (grouped same q i g) (drop_all i keys all)) ∙ h ∙ groups_are same q keys

-- a key is shared if it has a first one
shared_is : {K : Type 0} (same : K → K → Bool) (keys : List (Option K)) (key : Option K)
    → is_some (first_of same keys key) ≡ is_shared same keys key
shared_is same keys None = refl
shared_is same keys (Some k) = by_test (nat_lt 1 (count same k keys)) (first_index same k keys)
  where
    by_test : (b : Bool) (i : ℕ) → is_some (cond b (Some i) None) ≡ b
    by_test true i = refl
    by_test false i = refl

pub sharing : {K : Type 0} (same : K → K → Bool) (all keys : List (Option K))
    → map is_some (map (first_of same all) keys) ≡ map (is_shared same all) keys
sharing same all [] = refl
sharing same all (key ∷ keys) = ap₂ ◌∷◌ (shared_is same all key) (sharing same all keys)
