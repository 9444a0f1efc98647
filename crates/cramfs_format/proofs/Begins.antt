-- Bytes begin with the magic in one byte order at most.
use Rattle.std.proofs.Common.{◌≡◌, ℕ, List, [], ◌∷◌, refl, arith}
use Rattle.std.proofs.lemmas.Bool.{eq-eqb, ne_eqb}
use Rattle.rom_fields.specs.Words.{word_be, word_le}
use Rattle.rom_tree.specs.Tree.{Node}
use Rattle.cramfs_format.specs.declared.order.Order.{Order}
use Rattle.cramfs_format.specs.declared.order.Order.TheVariants.{Little, Big}
use Rattle.cramfs_format.specs.Order.{word}
use Rattle.cramfs_format.specs.Superblock.{magic, order_of}
use Rattle.cramfs_format.specs.Tree.{CramfsTree}

two_orders : (b : List ℕ) → word_le b 0 ≡ 684539205 → word_be b 0 ≡ 684539205 → ⊥
unfolding word_le word_be
two_orders [] h k = omega arith
two_orders (p ∷ []) h k = omega arith
two_orders (p ∷ q ∷ []) h k = omega arith
two_orders (p ∷ q ∷ r ∷ []) h k = omega arith
two_orders (p ∷ q ∷ r ∷ s ∷ rest) h k = omega arith

not_both : (b : List ℕ) → word Little b 0 ≡ magic → word Big b 0 ≡ magic → ⊥
unfolding word
not_both b h k = two_orders b h k

-- the order in which they do is the image's
pub order_is : (o : Order) (b : List ℕ) → word o b 0 ≡ magic → o ≡ order_of b
unfolding order_of
order_is Little b h = rw (ne_eqb (word Big b 0) magic (λ k. not_both b h k)) refl
order_is Big b h = rw (eq-eqb (word Big b 0) magic h) refl

pub tree_order : (o : Order) (bytes : List ℕ) (most deepest : ℕ) (t : Node) → CramfsTree o bytes most deepest t
    → o ≡ order_of bytes
tree_order o bytes most deepest t h = order_is o bytes h.super.begins
