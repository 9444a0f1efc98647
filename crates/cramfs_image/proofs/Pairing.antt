-- Pairs of extents in conflict, in lists with the same members.
use Rattle.std.proofs.Common.{◌≡◌, ℕ, zero, suc, ◌<◌, max, Option, None, Some, List, [], ◌∷◌, length, get_or, inl, inr}
use Rattle.std.proofs.Common.{refl, sym, ap, subst, ◌∙◌, arith}
use Rattle.std.proofs.Math.Nat.{max_comm}
use Rattle.std.proofs.lemmas.Bool.{cases_eq}
use Rattle.std.proofs.lemmas.List.Edits.{swapped_from_swap}
use Rattle.std.proofs.lemmas.List.Sorted.{IsPermutation-keeps, IsPermutation-sym, length_permutation}
use Rattle.std.proofs.lemmas.List.Sorted.{IsPermutation-swap}
use Rattle.std.specs.Prelude.{IfSome, IsPermutation}
use Rattle.std.specs.List.{swap}
use Rattle.rom_fields.specs.declared.span.Span.{Span}
use Rattle.rom_fields.specs.declared.span.Extent.TheVariants.{Super}
use Rattle.rom_fields.specs.Extents.{is_shareable, AreShared, IsLeastOf}
use Rattle.record_forest.specs.Members.{Has}
use Rattle.cramfs_image.specs.Merged.{Conflict, Clash, ConflictsAt}

pub conflict_back : (x y : Span) → Conflict x y → Conflict y x
conflict_back x y h = (
  (
    (h.0.0.0, h.0.0.2, h.0.0.1),
    λ s. h.0.1
        (record {
          kind = sym s.kind;
          shareable = ap is_shareable (sym s.kind) ∙ s.shareable;
          start = sym s.start;
          len = sym s.len;
        }),
  ),
  λ s. h.1 (record { one = s.other; other = s.one; step = sym s.step }),
)

pub turned : (p : ℕ) (x y : Span) → Clash p x y → Clash p y x
turned p x y h = (conflict_back x y h.0, h.1 ∙ max_comm x.start y.start)

-- what is past the end of a list of extents
abbrev pub blank : Span
blank = record { kind = Super; start = 0; len = 0 }

-- two of the extents at different places are in conflict at p
pub record Pair (xs : List Span) (p : ℕ) : Type 0 where
  pub i : ℕ
  pub j : ℕ
  pub apart : i ≡ j → ⊥
  pub one_in : i < length xs
  pub other_in : j < length xs
  pub hit : Clash p (get_or xs i blank) (get_or xs j blank)

meets_index : (x : Span) (xs : List Span) (p : ℕ) → Has (Clash p x) xs
    → (j : ℕ) × (j < length xs) × Clash p x (get_or xs j blank)
meets_index x [] p h = absurd h
meets_index x (y ∷ ys) p (inl h) = (0, (omega arith), h)
meets_index x (y ∷ ys) p (inr h) = let k = meets_index x ys p h in (suc k.0, (omega arith), k.2)

pub pair_from : (xs : List Span) (p : ℕ) → ConflictsAt xs p → Pair xs p
pair_from [] p h = absurd h
pair_from (x ∷ xs) p (inl h) = let k =
    meets_index x xs p h in record {
      i = 0;
      j = suc k.0;
      apart = λ e. (omega arith);
      one_in = omega arith;
      other_in = omega arith;
      hit = k.2;
    }
pair_from (x ∷ xs) p (inr h) = let k =
    pair_from xs p h in record {
      i = suc k.i;
      j = suc k.j;
      apart = λ e. k.apart (omega arith);
      one_in = omega arith;
      other_in = omega arith;
      hit = k.hit;
    }

index_meets : (x : Span) (xs : List Span) (p j : ℕ) → j < length xs → Clash p x (get_or xs j blank) → Has (Clash p x) xs
index_meets x [] p j l h = absurd (omega arith)
index_meets x (y ∷ ys) p zero l h = inl h
index_meets x (y ∷ ys) p (suc j) l h = inr (index_meets x ys p j (omega arith) h)

pub pair_to : (xs : List Span) (p i j : ℕ) → (i ≡ j → ⊥) → i < length xs → j < length xs
    → Clash p (get_or xs i blank) (get_or xs j blank) → ConflictsAt xs p
pair_to [] p i j n l m h = absurd (omega arith)
pair_to (x ∷ xs) p zero zero n l m h = absurd (n refl)
pair_to (x ∷ xs) p zero (suc j) n l m h = inl (index_meets x xs p j (omega arith) h)
pair_to (x ∷ xs) p (suc i) zero n l m h = inl (index_meets x xs p i (omega arith) (turned p (get_or xs i blank) x h))
pair_to (x ∷ xs) p (suc i) (suc j) n l m h = inr (pair_to xs p i j (λ e. n (ap suc e)) (omega arith) (omega arith) h)

-- the index of the extent at k after those at a and b have changed places
data Moved (xs ys : List Span) (a b k m : ℕ) : Type 0 where
  first : k ≡ a → m ≡ b → Moved xs ys a b k m
  second : k ≡ b → m ≡ a → Moved xs ys a b k m
  neither : (k ≡ a → ⊥) → (k ≡ b → ⊥) → m ≡ k → Moved xs ys a b k m

moved : (xs ys : List Span) (a b k : ℕ) → a < length xs → b < length xs → k < length xs → ys ≡ swap xs a b
    → (m : ℕ) × (m < length xs) × (get_or ys m blank ≡ get_or xs k blank) × Moved xs ys a b k m
moved xs ys a b k la lb lk e =
    let s = swapped_from_swap xs ys a b blank la lb e in
    elim (cases_eq k a) [
      | inl u ↦ (b, lb, s.1 ∙ ap (λ (v : ℕ). get_or xs v blank) (sym u), first u refl)
      | inr u ↦ elim (cases_eq k b) [
        | inl v ↦ (a, la, s.0 ∙ ap (λ (w : ℕ). get_or xs w blank) (sym v), second v refl)
        | inr v ↦ (k, lk, s.2 k u v, neither u v refl)
      ]
    ]

-- two places do not become one
apart_moved : (xs ys : List Span) (a b i j m n : ℕ) → (i ≡ j → ⊥) → Moved xs ys a b i m → Moved xs ys a b j n → m ≡ n
    → ⊥
apart_moved xs ys a b i j m n d (first p q) (first r s) e = d (omega arith)
apart_moved xs ys a b i j m n d (first p q) (second r s) e = d (omega arith)
apart_moved xs ys a b i j m n d (first p q) (neither r s t) e = s (omega arith)
apart_moved xs ys a b i j m n d (second p q) (first r s) e = d (omega arith)
apart_moved xs ys a b i j m n d (second p q) (second r s) e = d (omega arith)
apart_moved xs ys a b i j m n d (second p q) (neither r s t) e = r (omega arith)
apart_moved xs ys a b i j m n d (neither p q t) (first r s) e = q (omega arith)
apart_moved xs ys a b i j m n d (neither p q t) (second r s) e = p (omega arith)
apart_moved xs ys a b i j m n d (neither p q t) (neither r s u) e = d (omega arith)

swap_kept : (p : ℕ) (xs : List Span) (a b : ℕ) → a < length xs → b < length xs → ConflictsAt xs p
    → ConflictsAt (swap xs a b) p
swap_kept p xs a b la lb h =
    let k = pair_from xs p h in
    let one = moved xs (swap xs a b) a b k.i la lb k.one_in refl in
    let other = moved xs (swap xs a b) a b k.j la lb k.other_in refl in
    let e : length (swap xs a b) ≡ length xs =
    length_permutation xs (swap xs a b) (IsPermutation-swap xs (swap xs a b) a b la lb refl) in
    pair_to (swap xs a b) p one.0 other.0 (apart_moved xs (swap xs a b) a b k.i k.j one.0 other.0 k.apart one.3 other.3)
    (omega arith) (omega arith)
    (subst (λ (v : Span). Clash p v (get_or (swap xs a b) other.0 blank)) (sym one.2)
    (subst (Clash p (get_or xs k.i blank)) (sym other.2) k.hit))

pub conflicts_permuted : (xs ys : List Span) (p : ℕ) → IsPermutation xs ys → ConflictsAt xs p → ConflictsAt ys p
conflicts_permuted xs ys p s h =
    IsPermutation-keeps xs (λ (v : List Span). ConflictsAt v p) h (λ l i j a b k. swap_kept p l i j a b k) ys s

least_if : (P Q : ℕ → Type 0) (v : Option ℕ) → ((p : ℕ) → P p → Q p) → IfSome v P → IfSome v Q
least_if P Q None f h = h
least_if P Q (Some p) f h = f p h

pub least_permuted : (xs ys : List Span) (v : Option ℕ) → IsPermutation xs ys → IsLeastOf (ConflictsAt ys) v
    → IsLeastOf (ConflictsAt xs) v
least_permuted xs ys v s h = record {
  here = least_if (ConflictsAt ys) (ConflictsAt xs) v
      (λ p. conflicts_permuted ys xs p (IsPermutation-sym xs ys s)) h.here;
  least = λ p k. h.least p (conflicts_permuted xs ys p s k);
}
