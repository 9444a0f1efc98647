-- A front of bytes has the words of the bytes that it goes beyond, and so begins as they do.
use Rattle.std.proofs.Common.{◌≡◌, ℕ, suc, ◌+◌, ◌-◌, ◌<◌, ◌≤◌, ◌↔◌, nat_lt, ◌==◌, if◌then◌else◌, List, [], ◌∷◌, length}
use Rattle.std.proofs.Common.{take, drop, inl, inr, refl, sym, ap, ◌∙◌, arith, length-take, take-take}
use Rattle.std.proofs.lemmas.List.{drop-take}
use Rattle.std.proofs.lemmas.Bool.{cases_lt, lt-ltb, le-ltb}
use Rattle.rom_fields.specs.Words.{word_be, word_le}
use Rattle.cramfs_format.specs.declared.order.Order.{Order}
use Rattle.cramfs_format.specs.declared.order.Order.TheVariants.{Little, Big}
use Rattle.cramfs_format.specs.Order.{word}
use Rattle.cramfs_format.specs.Superblock.{magic, order_of}
use Rattle.formats.specs.Begins.{BeginsRomfs, BeginsCramfs}

-- four bytes are enough for the first word
first_be : (m : ℕ) (xs : List ℕ) → word_be (take (suc (suc (suc (suc m)))) xs) 0 ≡ word_be xs 0
unfolding word_be
first_be m [] = refl
first_be m (a ∷ []) = refl
first_be m (a ∷ b ∷ []) = refl
first_be m (a ∷ b ∷ c ∷ []) = refl
first_be m (a ∷ b ∷ c ∷ d ∷ rest) = refl

first_le : (m : ℕ) (xs : List ℕ) → word_le (take (suc (suc (suc (suc m)))) xs) 0 ≡ word_le xs 0
unfolding word_le
first_le m [] = refl
first_le m (a ∷ []) = refl
first_le m (a ∷ b ∷ []) = refl
first_le m (a ∷ b ∷ c ∷ []) = refl
first_le m (a ∷ b ∷ c ∷ d ∷ rest) = refl

four_more : (n p : ℕ) → p + 4 ≤ n → n ≡ p + suc (suc (suc (suc (n - (p + 4)))))
four_more n p l = omega arith

-- the word at p is that of any front beyond it
pub front_be : (b : List ℕ) (n p : ℕ) → p + 4 ≤ n → word_be (take n b) p ≡ word_be b p
unfolding word_be
front_be b n p l =
    let m : ℕ = n - (p + 4) in
    ap (λ (k : ℕ). word_be (take k b) p) (four_more n p l)
    ∙ ap (λ (xs : List ℕ). word_be xs 0) (drop-take p (suc (suc (suc (suc m)))) b) ∙ first_be m (drop p b)

front_le : (b : List ℕ) (n p : ℕ) → p + 4 ≤ n → word_le (take n b) p ≡ word_le b p
unfolding word_le
front_le b n p l =
    let m : ℕ = n - (p + 4) in
    ap (λ (k : ℕ). word_le (take k b) p) (four_more n p l)
    ∙ ap (λ (xs : List ℕ). word_le xs 0) (drop-take p (suc (suc (suc (suc m)))) b) ∙ first_le m (drop p b)

pub front_word : (o : Order) (b : List ℕ) (n p : ℕ) → p + 4 ≤ n → word o (take n b) p ≡ word o b p
unfolding word
front_word Little b n p l = front_le b n p l
front_word Big b n p l = front_be b n p l

pub front_order : (b : List ℕ) (n : ℕ) → 4 ≤ n → order_of (take n b) ≡ order_of b
unfolding order_of
front_order b n l = ap (λ (w : ℕ). if w == magic then Big else Little) (front_word Big b n 0 (omega arith))

-- which lengths up to n a front of n bytes has
pub front_long : (k n : ℕ) (b : List ℕ) → k ≤ n → (k ≤ length b) ↔ (k ≤ length (take n b))
front_long k n b l = let e = length-take n b in (λ h. (omega arith), λ h. (omega arith))

pub front_short : (k n : ℕ) (b : List ℕ) → k ≤ n → (length b < k) ↔ (length (take n b) < k)
front_short k n b l = let e = length-take n b in (λ h. (omega arith), λ h. (omega arith))

pub front_test : (k n : ℕ) (b : List ℕ) → k ≤ n → nat_lt (length b) k ≡ nat_lt (length (take n b)) k
front_test k n b l = elim (cases_lt (length b) k) [
  | inl h ↦ lt-ltb (length b) k h ∙ sym (lt-ltb (length (take n b)) k ((front_short k n b l).0 h))
  | inr h ↦ le-ltb (length b) k h ∙ sym (le-ltb (length (take n b)) k ((front_long k n b l).0 h))
]

-- it begins as an image of the same format
pub front_romfs : (b : List ℕ) (n : ℕ) → 8 ≤ n → BeginsRomfs b ↔ BeginsRomfs (take n b)
front_romfs b n l = let e = take-take 8 n b l in (λ h. e ∙ h, λ h. sym e ∙ h)

pub front_cramfs : (b : List ℕ) (n : ℕ) → 4 ≤ n → BeginsCramfs b ↔ BeginsCramfs (take n b)
front_cramfs b n l =
    let long = front_long 4 n b l in
    let e : word (order_of (take n b)) (take n b) 0 ≡ word (order_of b) b 0 =
    ap (λ (o : Order). word o (take n b) 0) (front_order b n l) ∙ front_word (order_of b) b n 0 (omega arith)
    in
    (λ h. (long.0 h.0, e ∙ h.1), λ h. (long.1 h.0, sym e ∙ h.1))
