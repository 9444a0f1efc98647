-- The image's own CRC.
use Rattle.std.proofs.Common.{◌≡◌, ◌≢◌, ℕ, ◌-◌, ◌%◌, List, [], ◌∷◌, ◌++◌, length, take, drop, refl, sym, ap, ◌∙◌}
use Rattle.std.proofs.Common.{append_assoc}
use Rattle.std.proofs.lemmas.Bool.{eqb-true}
use Rattle.std.proofs.lemmas.List.{take_rest}
use Rattle.crc.specs.Crc.{crc_of}
use Rattle.cramfs_format.specs.Order.{word}
use Rattle.cramfs_format.specs.declared.order.Order.{Order}
use Rattle.cramfs_format.specs.Superblock.{without_crc, HasCrc}

-- the three parts of an image: before its crc, the crc taken as zero, and what follows
pub parts_crc : (b none : List ℕ) (front upto whole : ℕ) → none ≡ 0 ∷ 0 ∷ 0 ∷ 0 ∷ [] → front ≡ crc_of (take 32 b)
    → ((xs : List ℕ) → front ≡ crc_of xs → upto ≡ crc_of (xs ++ none))
    → ((xs : List ℕ) → upto ≡ crc_of xs → whole ≡ crc_of (xs ++ take (length b - 36) (drop 36 b)))
    → whole ≡ crc_of (without_crc b)
parts_crc b none front upto whole z e f g =
    g (take 32 b ++ none) (f (take 32 b) e) ∙ ap (λ (xs : List ℕ). crc_of ((take 32 b ++ none) ++ xs)) (take_rest b 36)
    ∙ ap crc_of (append_assoc (take 32 b) none (drop 36 b) ∙ ap (λ (xs : List ℕ). take 32 b ++ (xs ++ drop 36 b)) z)

-- the stored crc, by what is stored and what the bytes give
pub no_crc : (o : Order) (b : List ℕ) (flags : ℕ) → flags ≡ word o b 8 → flags % 2 ≢ 1 → HasCrc o b
unfolding HasCrc
no_crc o b flags e n t = absurd (n (ap (λ (f : ℕ). f % 2) e ∙ eqb-true _ _ t))

pub right_crc : (o : Order) (b : List ℕ) (stored crc : ℕ) → stored ≡ word o b 32 → crc ≡ crc_of (without_crc b)
    → stored ≡ crc → HasCrc o b
unfolding HasCrc
right_crc o b stored crc e f g t = sym e ∙ g ∙ f

pub wrong_crc : (o : Order) (b : List ℕ) (flags stored crc : ℕ) → flags ≡ word o b 8 → flags % 2 ≡ 1
    → stored ≡ word o b 32 → crc ≡ crc_of (without_crc b) → stored ≢ crc → HasCrc o b → ⊥
unfolding HasCrc
wrong_crc o b flags stored crc e t f g n h = n (f ∙ h (rw (← e, t) refl) ∙ sym g)
