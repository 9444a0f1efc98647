-- What a front of the flash has, the flash has.
use Rattle.std.proofs.Common.{◌≡◌, ℕ, suc, ◌+◌, ◌-◌, ◌≤◌, List, [], ◌∷◌, ◌++◌, length, take, drop, refl, sym, ap, ◌∙◌}
use Rattle.std.proofs.Common.{arith, take_at}
use Rattle.std.proofs.lemmas.List.{drop-take}
use Rattle.rom_fields.specs.Words.{word_be, word_le}
use Rattle.cramfs_format.specs.declared.order.Order.{Order}
use Rattle.cramfs_format.specs.declared.order.Order.TheVariants.{Little, Big}
use Rattle.cramfs_format.specs.Order.{word}
use Rattle.cramfs_format.specs.Inode.{mode_of, type_of, size_of, offset_of, pointer_place, pointer_of}

-- four bytes are enough for the first word
first_be : (m : ℕ) (xs : List ℕ) → word_be (take (suc (suc (suc (suc m)))) xs) 0 ≡ word_be xs 0
unfolding word_be
first_be m [] = refl
first_be m (a ∷ []) = refl
first_be m (a ∷ b ∷ []) = refl
first_be m (a ∷ b ∷ c ∷ []) = refl
first_be m (a ∷ b ∷ c ∷ d ∷ rest) = refl

first_le : (m : ℕ) (xs : List ℕ) → word_le (take (suc (suc (suc (suc m)))) xs) 0 ≡ word_le xs 0
unfolding word_le
first_le m [] = refl
first_le m (a ∷ []) = refl
first_le m (a ∷ b ∷ []) = refl
first_le m (a ∷ b ∷ c ∷ []) = refl
first_le m (a ∷ b ∷ c ∷ d ∷ rest) = refl

four_more : (n p : ℕ) → p + 4 ≤ n → n ≡ p + suc (suc (suc (suc (n - (p + 4)))))
four_more n p l = omega arith

front_be : (b : List ℕ) (n p : ℕ) → p + 4 ≤ n → word_be (take n b) p ≡ word_be b p
unfolding word_be
front_be b n p l =
    let m : ℕ = n - (p + 4) in
    ap (λ (k : ℕ). word_be (take k b) p) (four_more n p l)
    ∙ ap (λ (xs : List ℕ). word_be xs 0) (drop-take p (suc (suc (suc (suc m)))) b) ∙ first_be m (drop p b)

front_le : (b : List ℕ) (n p : ℕ) → p + 4 ≤ n → word_le (take n b) p ≡ word_le b p
unfolding word_le
front_le b n p l =
    let m : ℕ = n - (p + 4) in
    ap (λ (k : ℕ). word_le (take k b) p) (four_more n p l)
    ∙ ap (λ (xs : List ℕ). word_le xs 0) (drop-take p (suc (suc (suc (suc m)))) b) ∙ first_le m (drop p b)

front_word : (o : Order) (b : List ℕ) (n p : ℕ) → p + 4 ≤ n → word o (take n b) p ≡ word o b p
unfolding word
front_word Little b n p l = front_le b n p l
front_word Big b n p l = front_be b n p l

module _ (o : Order) (b c rest : List ℕ) (e : c ≡ b ++ rest) where
  pub same_word : (p : ℕ) → p + 4 ≤ length b → word o c p ≡ word o b p
  same_word p l =
      sym (front_word o c (length b) p l)
      ∙ ap (λ (xs : List ℕ). word o xs p) (ap (take (length b)) e ∙ take_at b rest (length b) refl)

  pub same_type : (p : ℕ) → p + 12 ≤ length b → type_of o c p ≡ type_of o b p
  unfolding type_of mode_of
  same_type p l = rw (same_word p (omega arith)) refl

  pub same_size : (p : ℕ) → p + 12 ≤ length b → size_of o c p ≡ size_of o b p
  unfolding size_of
  same_size p l = rw (same_word (p + 4) (omega arith)) refl

  pub same_offset : (p : ℕ) → p + 12 ≤ length b → offset_of o c p ≡ offset_of o b p
  unfolding offset_of
  same_offset p l = rw (same_word (p + 8) (omega arith)) refl

  pub same_place : (p i : ℕ) → p + 12 ≤ length b → pointer_place o c p i ≡ pointer_place o b p i
  unfolding pointer_place
  same_place p i l = rw (same_offset p l) refl

  pub same_pointer : (p i : ℕ) → p + 12 ≤ length b → pointer_place o b p i + 4 ≤ length b
      → pointer_of o c p i ≡ pointer_of o b p i
  same_pointer p i l m =
      ap (word o c) (same_place p i l) ∙ same_word (pointer_place o b p i) m
