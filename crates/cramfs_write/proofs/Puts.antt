-- Tables that are written pointer by pointer.
use Rattle.std.proofs.Common.{◌≡◌, ℕ, zero, suc, ◌+◌, ◌-◌, ◌*◌, ◌/◌, ◌%◌, ◌^◌, ◌≤◌, List, ◌++◌, length, take, drop}
use Rattle.std.proofs.Common.{refl, sym, ap, ◌∙◌, arith, append_assoc, append-nil, length-append, length-take}
use Rattle.std.proofs.lemmas.List.{take_all, take_at, drop_at}
use Rattle.rom_fields.specs.Words.{with_word_be, with_word_le}
use Rattle.cramfs_format.specs.Order.{with_word}
use Rattle.cramfs_format.specs.declared.order.Order.{Order}
use Rattle.cramfs_format.specs.declared.order.Order.TheVariants.{Little, Big}
use Rattle.cramfs_layout.specs.Layout.{word_bytes, pointers}
use Rattle.cramfs_layout.proofs.Super.{length-pointers}

-- pointers of two runs of blocks
pub pointers_join : (o : Order) (p m n : ℕ) → pointers o p (m + n) ≡ pointers o p m ++ pointers o (p + 4096 * m) n
pointers_join o p zero n =
    let e : p ≡ p + 4096 * 0 = omega arith in
    let z : 0 + n ≡ n = omega arith in
    ap (λ (k : ℕ). pointers o p k) z ∙ ap (λ (q : ℕ). pointers o q n) e
pointers_join o p (suc m) n =
    let w = word_bytes o (3 * 2 ^ 30 + p / 4) in
    let e : p + 4096 + 4096 * m ≡ p + 4096 * suc m = omega arith in
    let s : suc m + n ≡ suc (m + n) = omega arith in
    ap (λ (k : ℕ). pointers o p k) s ∙ ap (λ (xs : List ℕ). w ++ xs)
    (pointers_join o (p + 4096) m n ∙ ap (λ (q : ℕ). pointers o (p + 4096) m ++ pointers o q n) e)
    ∙ sym (append_assoc w (pointers o (p + 4096) m) (pointers o (p + 4096 * suc m) n))

-- one pointer more
pub pointer_more : (o : Order) (p k word : ℕ) → word ≡ 3 * 2 ^ 30 + p / 4 + 1024 * k
    → pointers o p k ++ word_bytes o word ≡ pointers o p (k + 1)
pointer_more o p k word e =
    let q : word ≡ 3 * 2 ^ 30 + (p + 4096 * k) / 4 = omega (arith, e) in
    ap (λ (v : ℕ). pointers o p k ++ word_bytes o v) q
    ∙ ap (λ (xs : List ℕ). pointers o p k ++ xs) (sym (append-nil (word_bytes o (3 * 2 ^ 30 + (p + 4096 * k) / 4))))
    ∙ sym (pointers_join o p k 1)

-- the pointers from one on
pub pointers_from : (o : Order) (p n k m : ℕ) → k + m ≤ n
    → pointers o (p + 4096 * k) m ≡ take (4 * m) (drop (4 * k) (pointers o p n))
pointers_from o p n k m l =
    let r = n - k - m in
    let e : n ≡ k + (m + r) = omega arith in
    let a = pointers o (p + 4096 * k) m in
    let b = pointers o (p + 4096 * k + 4096 * m) r in
    let whole : pointers o p n ≡ pointers o p k ++ (a ++ b) =
    ap (pointers o p) e ∙ pointers_join o p k (m + r)
    ∙ ap (λ (xs : List ℕ). pointers o p k ++ xs) (pointers_join o (p + 4096 * k) m r) in
    sym (ap (λ (xs : List ℕ). take (4 * m) (drop (4 * k) xs)) whole
    ∙ ap (take (4 * m)) (drop_at (pointers o p k) (a ++ b) (4 * k) (length-pointers o p k))
    ∙ take_at a b (4 * m) (length-pointers o (p + 4096 * k) m))

pub all_pointers : (o : Order) (p at n : ℕ) (out old : List ℕ) → at ≡ 4 * (length old / 4) → length old % 4 ≡ 0
    → length out ≡ length old → take at out ≡ pointers o p n → out ≡ pointers o p n
all_pointers o p at n out old e z l h = sym (take_all at out (omega (arith, e, z, l))) ∙ h

-- a part of a table
pub table_filled : (o : Order) (p n from : ℕ) (old out : List ℕ) → from % 4 ≡ 0 → length old % 4 ≡ 0
    → from + length old ≤ 4 * n
    → out ≡ pointers o (p + 1024 * from) (length old / 4) → out ≡ take (length out) (drop from (pointers o p n))
table_filled o p n from old out w z l h =
    let k = from / 4 in
    let m = length old / 4 in
    let a : 4 * k ≡ from = omega (arith, w) in
    let r : p + 1024 * from ≡ p + 4096 * k = omega (arith, w) in
    let b : length out ≡ 4 * m = ap length h ∙ length-pointers o (p + 1024 * from) m in
    h ∙ ap (λ (x : ℕ). pointers o x m) r ∙ pointers_from o p n k m (omega (arith, w, z, l))
    ∙ ap (λ (x : ℕ). take x (drop (4 * k) (pointers o p n))) (sym b)
    ∙ ap (λ (x : ℕ). take (length out) (drop x (pointers o p n))) a

word-length : (o : Order) (w : ℕ) → length (word_bytes o w) ≡ 4
word-length Little w = refl
word-length Big w = refl

-- a word that was put, and what is before it
pub word_put : (o : Order) (b : List ℕ) (p w : ℕ) → p + 4 ≤ length b
    → take (p + 4) (with_word o b p w) ≡ take p b ++ word_bytes o w
unfolding with_word with_word_le with_word_be
word_put o b p w fits =
    let front = take p b ++ word_bytes o w in
    let n : length front ≡ p + 4 =
    omega (arith, length-append (take p b) (word_bytes o w), length-take p b, word-length o w) in
    ap (take (p + 4)) (with_word-is o b p w) ∙ take_at front (drop (p + 4) b) (p + 4) n
  where
    with_word-is : (o : Order) (b : List ℕ) (p w : ℕ)
        → with_word o b p w ≡ (take p b ++ word_bytes o w) ++ drop (p + 4) b
    with_word-is Little b p w = sym (append_assoc (take p b) (word_bytes Little w) (drop (p + 4) b))
    with_word-is Big b p w = sym (append_assoc (take p b) (word_bytes Big w) (drop (p + 4) b))
