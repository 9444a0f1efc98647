-- The sum of words over parts, and the word that brings it to 0.
use Rattle.std.proofs.Common.{◌≡◌, ◌+◌, ◌*◌, ◌^◌, ◌%◌, zero, suc, ◌<◌, ℕ, length, List, [], ◌∷◌, ◌++◌, ap, ◌∙◌, arith}
use Rattle.std.proofs.Common.{append_assoc}
use Rattle.byteorder.specs.Endian.{big_number, big_bytes}
use Rattle.byteorder.specs.Numbers.{big_number-reads_back}
use Rattle.rom_fields.specs.Parts.{HasAt}
use Rattle.rom_fields.specs.Words.{word_be, words_total, words_sum}
use Rattle.rom_fields.specs.Sums.{balance, balanced}

-- the sum of whole words in front, and of what follows
pub words_total-append : (k : ℕ) (a b : List ℕ) → length a ≡ 4 * k
    → words_total (a ++ b) ≡ words_total a + words_total b
words_total-append k [] b h = omega arith
words_total-append k (a ∷ []) b h = absurd (omega arith)
words_total-append k (a ∷ c ∷ []) b h = absurd (omega arith)
words_total-append k (a ∷ c ∷ d ∷ []) b h = absurd (omega arith)
words_total-append zero (a ∷ c ∷ d ∷ e ∷ rest) b h = absurd (omega arith)
words_total-append (suc k) (a ∷ c ∷ d ∷ e ∷ rest) b h =
    let ih = words_total-append k rest b (omega arith) in
    omega (arith, ih)

pub balance_is : (n : ℕ) → (n + balance n) % 2 ^ 32 ≡ 0
unfolding balance
balance_is n = omega arith

pub balance_fits : (n : ℕ) → balance n < 256 ^ 4
unfolding balance
balance_fits n = omega arith

-- the total of a single word
pub words_total-word : (x : ℕ) (back : List ℕ) → x < 256 ^ 4
    → words_total (big_bytes 4 x ++ back) ≡ x + words_total back
words_total-word x back h =
    let e = big_number-reads_back 4 x [] h in
    ap (λ (n : ℕ). n + words_total back) e

pub words_sum-balanced : (k : ℕ) (front back : List ℕ) → length front ≡ 4 * k → words_sum (balanced front back) ≡ 0
unfolding words_sum balanced
words_sum-balanced k front back h =
    let x = balance (words_total front + words_total back) in
    let e = words_total-append k front (big_bytes 4 x ++ back) h in
    let w = words_total-word x back (balance_fits (words_total front + words_total back)) in
    let s : words_total (front ++ (big_bytes 4 x ++ back)) ≡ (words_total front + words_total back) + x =
    omega (arith, e, w) in
    rw s (balance_is (words_total front + words_total back))

-- a word that is at an offset is read there
pub word_be-has : (b : List ℕ) (p x : ℕ) (more : List ℕ) → x < 256 ^ 4 → HasAt b p (big_bytes 4 x ++ more)
    → word_be b p ≡ x
unfolding word_be
word_be-has b p x more h (back, e) =
    ap (big_number 4) (e ∙ append_assoc (big_bytes 4 x) more back) ∙ big_number-reads_back 4 x (more ++ back) h
