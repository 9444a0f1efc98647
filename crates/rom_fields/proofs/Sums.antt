-- The sum of words, word by word.
use Rattle.std.proofs.Common.{◌≡◌, ◌+◌, ◌%◌, ◌<◌, ◌≤◌, ℕ, length, drop, List, [], ◌∷◌, refl, ap, ◌∙◌, arith}
use Rattle.std.proofs.Math.Nat.{mod-add-mod, add_assoc}
use Rattle.byteorder.specs.Endian.{big_number}
use Rattle.rom_fields.specs.Words.{words_total}

-- a rest of fewer than four bytes is not counted
pub words_total-short : (s : List ℕ) → length s < 4 → words_total s ≡ 0
words_total-short [] h = refl
words_total-short (a ∷ []) h = refl
words_total-short (a ∷ b ∷ []) h = refl
words_total-short (a ∷ b ∷ c ∷ []) h = refl
words_total-short (a ∷ b ∷ c ∷ d ∷ rest) h = absurd (omega arith)

-- the first word, and those after it
pub words_total-step : (s : List ℕ) → 4 ≤ length s → words_total s ≡ big_number 4 s + words_total (drop 4 s)
words_total-step [] h = absurd (omega arith)
words_total-step (a ∷ []) h = absurd (omega arith)
words_total-step (a ∷ b ∷ []) h = absurd (omega arith)
words_total-step (a ∷ b ∷ c ∷ []) h = absurd (omega arith)
words_total-step (a ∷ b ∷ c ∷ d ∷ rest) h = refl

-- one more word in the running sum
pub sum_more : (sum word rest m : ℕ) → ((sum + word) % m + rest) % m ≡ (sum + (word + rest)) % m
sum_more sum word rest m = mod-add-mod (sum + word) m rest ∙ ap (λ (x : ℕ). x % m) (add_assoc sum word rest)
