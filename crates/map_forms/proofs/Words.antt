-- Bytes that are all letters, digits or underscores, one after the other.
use Rattle.std.proofs.Common.{◌≡◌, ◌≤◌, ◌<◌, ℕ, zero, suc, ◌+◌, List, [], ◌∷◌, length, drop, get_or}
use Rattle.std.proofs.Common.{refl, ap, ◌∙◌, arith, true, false}
use Rattle.map_forms.specs.Names.{is_word, are_words}

words_next : (xs : List ℕ) (i : ℕ) → i < length xs → is_word (get_or xs i 0) ≡ true
    → are_words (drop (suc i) xs) ≡ are_words (drop i xs)
words_next [] i h e = absurd (omega (arith, h))
words_next (x ∷ xs) zero h e = rw e refl
words_next (x ∷ xs) (suc i) h e = words_next xs i (omega (arith, h)) e

pub words_more : (xs : List ℕ) (i : ℕ) → i < length xs → is_word (get_or xs i 0) ≡ true
    → are_words (drop (i + 1) xs) ≡ are_words (drop i xs)
words_more xs i h e =
    let n : i + 1 ≡ suc i = omega arith in ap (λ (k : ℕ). are_words (drop k xs)) n ∙ words_next xs i h e

pub words_less : (xs : List ℕ) (i : ℕ) → i < length xs → is_word (get_or xs i 0) ≡ false
    → are_words (drop i xs) ≡ false
words_less [] i h e = absurd (omega (arith, h))
words_less (x ∷ xs) zero h e = rw e refl
words_less (x ∷ xs) (suc i) h e = words_less xs i (omega (arith, h)) e

pub words_end : (xs : List ℕ) (i : ℕ) → length xs ≤ i → are_words (drop i xs) ≡ true
words_end [] zero h = refl
words_end [] (suc i) h = refl
words_end (x ∷ xs) zero h = absurd (omega (arith, h))
words_end (x ∷ xs) (suc i) h = words_end xs i (omega (arith, h))
