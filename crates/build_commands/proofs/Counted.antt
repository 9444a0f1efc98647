-- Lines that differ from files are counted one after the other.
use Rattle.std.proofs.Common.{◌≡◌, ℕ, ◌+◌, ◌<◌, ◌≤◌, ◌⊎◌, inl, inr, Bool, true, false, List, [], ◌∷◌, length, drop}
use Rattle.std.proofs.Common.{get_or, ◌∙◌, refl, ap, arith, suc, min}
use Rattle.std.proofs.lemmas.List.{drop_more}
use Rattle.std.proofs.Math.ListN.{drop_of_length-le}
use Rattle.manifest.specs.declared.entry.Entry.{Entry}
use Rattle.build_commands.proofs.Fitting.{side}
use Rattle.build_commands.specs.Changed.{count_by, one_if}
use Rattle.build_commands.specs.declared.inventory.NamedFile.{NamedFile}

one_at_most : (holds : Bool) → one_if holds ≤ 1
one_at_most true = omega arith
one_at_most false = omega arith

-- one more is counted at most
pub bounded_next : (n i next : ℕ) (holds : Bool) → n ≤ i → next ≡ n + one_if holds → next ≤ i + 1
bounded_next n i next holds bound is =
    let most = one_at_most holds in
    omega (arith, most, bound, is)

module _ (differs : Entry → NamedFile → Bool) (es : List Entry) (fs : List NamedFile) where
  counted_next : (i : ℕ) (e : Entry) (f : NamedFile) → i < length es → i < length fs
      → count_by differs (drop i es) (drop i fs)
      ≡ one_if (differs (get_or es i e) (get_or fs i f)) + count_by differs (drop (i + 1) es) (drop (i + 1) fs)
  counted_next i e f in_es in_fs =
      ap (λ x. count_by differs x (drop i fs)) (drop_more es i e in_es)
      ∙ ap (λ x. count_by differs (get_or es i e ∷ drop (i + 1) es) x) (drop_more fs i f in_fs)

  -- the line and the file at an index are counted
  pub counted_on : (i : ℕ) (e : Entry) (f : NamedFile) (holds : Bool) (n next total : ℕ)
      → i < min (length es) (length fs) → f ≡ get_or fs i f → holds ≡ differs (get_or es i e) f
      → next ≡ n + one_if holds → n + count_by differs (drop i es) (drop i fs) ≡ total
      → next + count_by differs (drop (i + 1) es) (drop (i + 1) fs) ≡ total
  counted_on i e f holds n next total within is same more left =
      let here : one_if holds ≡ one_if (differs (get_or es i e) (get_or fs i f)) =
      ap one_if (same ∙ ap (differs (get_or es i e)) is)
      in
      let step = counted_next i e f (omega (arith, within)) (omega (arith, within)) in
      omega (arith, here, step, more, left)

  none_left : (es : List Entry) → count_by differs es [] ≡ 0
  none_left [] = refl
  none_left (e ∷ es) = refl

  all_of : (i : ℕ) → (length es ≤ i) ⊎ (length fs ≤ i) → count_by differs (drop i es) (drop i fs) ≡ 0
  all_of i (inl end) = ap (λ x. count_by differs x (drop i fs)) (drop_of_length-le es end)
  all_of i (inr end) = ap (λ x. count_by differs (drop i es) x) (drop_of_length-le fs end) ∙ none_left (drop i es)

  either : (a b i : ℕ) → min a b ≤ i → (a < suc i) ⊎ (suc i ≤ a) → (a ≤ i) ⊎ (b ≤ i)
  either a b i end (inl low) = inl (omega (arith, low))
  either a b i end (inr high) = inr (omega (arith, high, end))

  -- all are counted
  pub counted_all : (i n total : ℕ) → min (length es) (length fs) ≤ i
      → n + count_by differs (drop i es) (drop i fs) ≡ total → n ≡ total
  counted_all i n total end left =
      let none = all_of i (either (length es) (length fs) i end (side (length es) (suc i))) in
      omega (arith, none, left)
