-- The sum of bytes by their weights is the sum of words.
use Rattle.std.proofs.Common.{◌≡◌, ℕ, ◌+◌, ◌-◌, ◌*◌, ◌%◌, ◌<◌, ◌≤◌, min, inl, inr, List, [], ◌∷◌, ◌++◌, length, take}
use Rattle.std.proofs.Common.{drop, refl, sym, ap, ◌∙◌, arith, length-take, take-append-drop}
use Rattle.std.proofs.lemmas.Bool.{cases_lt}
use Rattle.std.proofs.lemmas.List.{drop_all}
use Rattle.byteorder.specs.Endian.{big_number}
use Rattle.rom_fields.specs.Words.{words_total}
use Rattle.rom_fields.specs.Sums.{balance}
use Rattle.image_stream.specs.WordSums.{weight, term, weighted, balance_of}
use Rattle.image_stream.proofs.Weights.{term_in, term_out}

first : (k : ℕ) → k % 4 ≡ 0 → weight k ≡ 16777216
first k e = rw e refl

second : (k : ℕ) → k % 4 ≡ 1 → weight k ≡ 65536
second k e = rw e refl

third : (k : ℕ) → k % 4 ≡ 2 → weight k ≡ 256
third k e = rw e refl

fourth : (k : ℕ) → k % 4 ≡ 3 → weight k ≡ 1
fourth k e = rw e refl

-- four bytes at a multiple of 4
pub four : (k a b c d : ℕ) → k % 4 ≡ 0 → k < 512
    → term k a + (term (k + 1) b + (term (k + 1 + 1) c + term (k + 1 + 1 + 1) d)) ≡ big_number 4 (a ∷ b ∷ c ∷ d ∷ [])
four k a b c d e h =
    let t0 = term_in k a h ∙ ap (λ (w : ℕ). a * w) (first k e) in
    let t1 = term_in (k + 1) b (omega arith) ∙ ap (λ (w : ℕ). b * w) (second (k + 1) (omega arith)) in
    let t2 = term_in (k + 1 + 1) c (omega arith) ∙ ap (λ (w : ℕ). c * w) (third (k + 1 + 1) (omega arith)) in
    let t3 = term_in (k + 1 + 1 + 1) d (omega arith) ∙ ap (λ (w : ℕ). d * w) (fourth (k + 1 + 1 + 1) (omega arith)) in
    omega arith

past : (xs : List ℕ) (k : ℕ) → 512 ≤ k → weighted k xs ≡ 0
past [] k h = refl
past (x ∷ xs) k h = let t = term_out k x h in let r = past xs (k + 1) (omega arith) in omega arith

words : (xs : List ℕ) (k n : ℕ) → length xs ≡ 4 * n → k % 4 ≡ 0 → k + length xs ≤ 512 → weighted k xs ≡ words_total xs
words [] k n e m h = refl
words (a ∷ []) k n e m h = absurd (omega arith)
words (a ∷ b ∷ []) k n e m h = absurd (omega arith)
words (a ∷ b ∷ c ∷ []) k n e m h = absurd (omega arith)
words (a ∷ b ∷ c ∷ d ∷ xs) k n e m h =
    let w = words xs (k + 1 + 1 + 1 + 1) (n - 1) (omega arith) (omega arith) (omega arith) in
    let f = four k a b c d m (omega arith) in
    omega arith

joined : (xs ys : List ℕ) (k : ℕ) → weighted k (xs ++ ys) ≡ weighted k xs + weighted (k + length xs) ys
joined [] ys k = let e : k ≡ k + 0 =
    omega arith in ap (λ (j : ℕ). weighted j ys) e
    ∙ (let z : weighted (k + 0) ys ≡ 0 + weighted (k + 0) ys = omega arith in z)
joined (x ∷ xs) ys k =
    let h = joined xs ys (k + 1) in
    let e : k + 1 + length xs ≡ k + length (x ∷ xs) = omega arith in
    let t = ap (λ (j : ℕ). weighted j ys) e in
    omega arith

-- the sum over an image of whole words
pub weighted_words : (b : List ℕ) (n : ℕ) → length b ≡ 4 * n → weighted 0 b ≡ words_total (take 512 b)
weighted_words b n e =
    let front = take 512 b in
    let back = drop 512 b in
    let l = length-take 512 b in
    let split : weighted 0 b ≡ weighted 0 front + weighted (0 + length front) back =
    ap (weighted 0) (sym (take-append-drop 512 b)) ∙ joined front back 0 in
    let whole : weighted 0 front ≡ words_total front =
    words front 0 (min 128 n) (omega arith) (omega arith) (omega arith) in
    elim (cases_lt (length b) 512) [
      | inl h ↦ let none : back ≡ [] = drop_all 512 b (omega arith) in let t =
          ap (weighted (0 + length front)) none in let z : weighted (0 + length front) [] ≡ 0 = refl in omega arith
      | inr h ↦ let r = past back (0 + length front) (omega arith) in omega arith
    ]

pub balance_words : (b : List ℕ) (n : ℕ) → length b ≡ 4 * n → balance_of b ≡ balance (words_total (take 512 b))
unfolding balance_of
balance_words b n e = ap balance (weighted_words b n e)
