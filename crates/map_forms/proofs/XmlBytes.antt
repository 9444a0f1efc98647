-- Texts that are put byte by byte.
use Rattle.std.proofs.Common.{◌≡◌, ◌∙◌, ◌+◌, ◌<◌, ◌≤◌, ℕ, List, [], ◌∷◌, ◌++◌, ap, length, take, get_or, append-nil}
use Rattle.std.proofs.lemmas.Grind.{flat_map-append}
use Rattle.std.proofs.lemmas.List.{take_more, take_all}
use Rattle.std.specs.List.{flat_map}

-- the text of one byte more
pub text_more : (f : ℕ → List ℕ) (xs : List ℕ) (i : ℕ) → i < length xs
    → flat_map f (take (i + 1) xs) ≡ flat_map f (take i xs) ++ f (get_or xs i 0)
text_more f xs i h =
    ap (flat_map f) (take_more xs i 0 h) ∙ flat_map-append f (take i xs) (get_or xs i 0 ∷ [])
    ∙ ap (λ (v : List ℕ). flat_map f (take i xs) ++ v) (append-nil (f (get_or xs i 0)))

pub text_end : (f : ℕ → List ℕ) (xs : List ℕ) (i : ℕ) → length xs ≤ i → flat_map f (take i xs) ≡ flat_map f xs
text_end f xs i h = ap (flat_map f) (take_all i xs h)
