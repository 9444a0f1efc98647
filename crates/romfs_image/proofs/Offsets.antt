-- The offsets of the rows, sorted.
use Rattle.std.proofs.Common.{◌≡◌, ℕ, zero, suc, ◌+◌, ◌<◌, ◌≤◌, Bool, true, false, List, [], ◌∷◌, ◌++◌, ◌||◌, length}
use Rattle.std.proofs.Common.{take, get_or, inl, inr, refl, sym, ap, ◌∙◌, arith, IsPermutation, map}
use Rattle.std.proofs.lemmas.Bool.{cases_lt}
use Rattle.std.proofs.lemmas.Bool.Decides.{eqb_tells}
use Rattle.std.proofs.lemmas.List.{take_more, take_all}
use Rattle.std.proofs.lemmas.List.Sorted.{list_any-IsPermutation, IsNonDecreasingBy-from_sort, searched}
use Rattle.std.specs.Prelude.{◌==◌, Result, Ok, Err, MatchResult}
use Rattle.std.specs.List.{list_any}
use Rattle.std.specs.List.Sorted.{IsSorted, IsBinarySearchResult}
use Rattle.std.specs.Ordering.{nat_cmp}
use Rattle.std.specs.Result.{is_ok}
use Rattle.record_forest.specs.declared.reference.Row.{Row}
use Rattle.romfs_image.specs.Phases.{AreOffsets}

abbrev pub offsets : List Row → List ℕ
offsets rows = map (λ (x : Row). x.offset) rows

map_push : (rows : List Row) (x : Row) → offsets (rows ++ x ∷ []) ≡ offsets rows ++ x.offset ∷ []
map_push [] x = refl
map_push (r ∷ rows) x = ap (λ (v : List ℕ). r.offset ∷ v) (map_push rows x)

-- one row further
pub offsets_more : (rows : List Row) (i : ℕ) (blank : Row) (old new : List ℕ) → i < length rows
    → old ≡ offsets (take i rows) → new ≡ old ++ (get_or rows i blank).offset ∷ [] → new ≡ offsets (take (i + 1) rows)
offsets_more rows i blank old new l e f =
    f ∙ ap (λ (v : List ℕ). v ++ (get_or rows i blank).offset ∷ []) e
    ∙ sym (map_push (take i rows) (get_or rows i blank)) ∙ sym (ap offsets (take_more rows i blank l))

any_mapped : (q : ℕ) (rows : List Row)
    → list_any (λ y. y == q) (offsets rows) ≡ list_any (λ (x : Row). x.offset == q) rows
any_mapped q [] = refl
any_mapped q (x ∷ rows) = ap (λ (v : Bool). (x.offset == q) || v) (any_mapped q rows)

pub sorted_offsets : (rows : List Row) (i : ℕ) (old new : List ℕ) → length rows ≤ i → old ≡ offsets (take i rows)
    → IsPermutation old new → IsSorted nat_cmp new → AreOffsets rows new
sorted_offsets rows i old new l e p s =
    let all : old ≡ offsets rows = e ∙ ap offsets (take_all i rows l) in
    record {
      rise = λ i j a b. IsNonDecreasingBy-from_sort (λ x. x) new s i j 0 a b;
      same = λ q. sym (list_any-IsPermutation (λ y. y == q) old new p) ∙ ap (list_any (λ y. y == q)) all
          ∙ any_mapped q rows;
    }

any_here : (q : ℕ) (xs : List ℕ) (i : ℕ) → i < length xs → get_or xs i 0 ≡ q → list_any (λ y. y == q) xs ≡ true
any_here q [] i l e = absurd (omega arith)
any_here q (x ∷ xs) zero l e = elim (eqb_tells x q) [ inl t ↦ rw t.0 refl | inr n ↦ absurd (n.1 e) ]
any_here q (x ∷ xs) (suc i) l e =
    elim (eqb_tells x q) [ inl t ↦ rw t.0 refl | inr n ↦ rw n.0 (any_here q xs i (omega arith) e) ]

any_nowhere : (q : ℕ) (xs : List ℕ) → ((i : ℕ) → i < length xs → get_or xs i 0 ≡ q → ⊥)
    → list_any (λ y. y == q) xs ≡ false
any_nowhere q [] h = refl
any_nowhere q (x ∷ xs) h = elim (eqb_tells x q) [
  | inl t ↦ absurd (h 0 (omega arith) t.1)
  | inr n ↦ rw n.0 (any_nowhere q xs (λ i l e. h (suc i) (omega arith) e))
]

-- what a search tells
pub among : (rows : List Row) (xs : List ℕ) (q : ℕ) (r : Result ℕ ℕ) → AreOffsets rows xs
    → IsBinarySearchResult (λ y. nat_cmp y q) xs r → is_ok r ≡ list_any (λ (x : Row). x.offset == q) rows
among rows xs q r a h = finds r (searched xs q r h a.rise) ∙ a.same q
  where
    finds : (r : Result ℕ ℕ) → MatchResult r (λ i. (i < length xs) × (get_or xs i 0 ≡ q))
        (λ i. (i ≤ length xs) × ((k : ℕ) → k < i → get_or xs k 0 < q)
        × ((k : ℕ) → i ≤ k → k < length xs → q < get_or xs k 0)) → is_ok r ≡ list_any (λ y. y == q) xs
    finds (Ok i) k = sym (any_here q xs i k.0 k.1)
    finds (Err i) k = sym (any_nowhere q xs (λ j l e. elim (cases_lt j i) [
      | inl u ↦ (let z = k.1 j u in absurd (omega arith))
      | inr u ↦ (let z = k.2 j u l in absurd (omega arith))
    ]))
