use Rattle.std.proofs.Common.{◌≡◌, ◌≢◌, ◌≤◌, ℕ, List, length, refl, sym, subst, ◌∙◌, arith}
use Rattle.std.proofs.lemmas.Bool.{ne_eqb, eq-eqb}
use Rattle.cramfs_format.specs.declared.order.Order.{Order}
use Rattle.cramfs_format.specs.declared.order.Order.TheVariants.{Little, Big}
use Rattle.cramfs_format.specs.Order.{word}
use Rattle.cramfs_format.specs.Superblock.{magic, order_of}
use Rattle.cramfs_format.proofs.superblock.order_in.Goals as goal

big_by : (b : List ℕ) → word Big b 0 ≡ magic → Big ≡ order_of b
unfolding order_of
big_by b e = rw (eq-eqb (word Big b 0) magic e) refl

little_by : (b : List ℕ) → word Big b 0 ≢ magic → Little ≡ order_of b
unfolding order_of
little_by b n = rw (ne_eqb (word Big b 0) magic n) refl

pub returns-then-word-eq-MAGIC-clause-order : goal.returns-then-word-eq-MAGIC-clause-order
returns-then-word-eq-MAGIC-clause-order c = big_by c.args.bytes.now (sym c.word.ensures ∙ c.if-word-eq-MAGIC.true)

pub returns-then-word-eq-MAGIC-clause-begins : goal.returns-then-word-eq-MAGIC-clause-begins
returns-then-word-eq-MAGIC-clause-begins c = (c.if-bytes-lt4.false, sym c.word.ensures ∙ c.if-word-eq-MAGIC.true)

pub returns-then-word-eq-MAGIC-2-clause-order : goal.returns-then-word-eq-MAGIC-2-clause-order
returns-then-word-eq-MAGIC-2-clause-order c =
    little_by c.args.bytes.now (λ e. c.if-word-eq-MAGIC.false (c.word.ensures ∙ e))

pub returns-then-word-eq-MAGIC-2-clause-begins : goal.returns-then-word-eq-MAGIC-2-clause-begins
returns-then-word-eq-MAGIC-2-clause-begins c = (c.if-bytes-lt4.false, sym c.word-2.ensures ∙ c.if-word-eq-MAGIC-2.true)

pub returns-clause-other : goal.returns-clause-other
returns-clause-other c =
    let b = c.args.bytes.now in
    λ h. c.if-word-eq-MAGIC-2.false (c.word-2.ensures
    ∙ subst (λ (o : Order). word o b 0 ≡ magic)
    (sym (little_by b (λ e. c.if-word-eq-MAGIC.false (c.word.ensures ∙ e)))) h.1)
