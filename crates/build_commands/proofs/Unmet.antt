-- The elements of a list that are there, one after the other.
use Rattle.std.proofs.Common.{◌≡◌, ℕ, ◌+◌, ◌≤◌, zero, suc, List, [], ◌∷◌, ◌++◌, take, slice_index_or}
use Rattle.std.proofs.Common.{Option, Some, None, refl, ap, sym, subst, ◌∙◌, arith}
use Rattle.std.proofs.lemmas.List.{length-map, take_all}
use Rattle.program_report.specs.Needs.{FileNeeded, entry_count, missing}
use Rattle.rom_tree.specs.Image.{Image}
use Rattle.build_commands.specs.Needed.{those_there}

abbrev pub if_there : {X : Type 0} → Option X → List X
if_there None = []
if_there (Some x) = x ∷ []

next_there : {X : Type 0} (xs : List (Option X)) (i : ℕ)
    → those_there (take (suc i) xs) ≡ those_there (take i xs) ++ if_there (slice_index_or xs i None)
next_there [] zero = refl
next_there [] (suc i) = refl
next_there (None ∷ xs) zero = refl
next_there (Some x ∷ xs) zero = refl
next_there (None ∷ xs) (suc i) = next_there xs i
next_there (Some x ∷ xs) (suc i) = ap (λ (l : List _). x ∷ l) (next_there xs i)

pub none_added : {X : Type 0} (xs : List X) → xs ++ [] ≡ xs
none_added [] = refl
none_added (x ∷ xs) = ap (λ (l : List _). x ∷ l) (none_added xs)

pub more : (ms : List (Option (List ℕ))) (i j : ℕ) (ys zs : List (List ℕ)) (o : Option (List ℕ)) → j ≡ suc i
    → ys ≡ those_there (take i ms) → o ≡ slice_index_or ms i None → zs ≡ ys ++ if_there o
    → zs ≡ those_there (take j ms)
more ms i j ys zs o next was is now =
    now ∙ ap (λ (l : List (List ℕ)). l ++ if_there o) was
    ∙ ap (λ (x : Option (List ℕ)). those_there (take i ms) ++ if_there x) is ∙ sym (next_there ms i)
    ∙ sym (ap (λ (k : ℕ). those_there (take k ms)) next)

pub all_taken : (m : Image) (n : FileNeeded) (i : ℕ) → 1 + entry_count n ≤ i
    → take i (missing m n) ≡ missing m n
unfolding missing
all_taken m n i h =
    take_all i (missing m n)
    (subst (λ (k : ℕ). suc k ≤ i) (sym (length-map n.libraries.needed _)) (omega (arith, h)))
