-- The sum of a superblock.
use Rattle.std.proofs.Common.{◌≡◌, ◌+◌, ◌-◌, ◌^◌, ◌%◌, ◌≤◌, ℕ, length, drop, take, List, ◌++◌, refl, sym, ap, ◌∙◌}
use Rattle.std.proofs.Common.{arith, append_assoc, length-append}
use Rattle.std.proofs.lemmas.List.{take-append-drop, drop-drop, length-take, drop_at}
use Rattle.std.proofs.Math.Seq.{take-append-add}
use Rattle.byteorder.specs.Endian.{big_bytes}
use Rattle.rom_fields.specs.Words.{words_total, words_sum}
use Rattle.rom_fields.specs.Sums.{balance, sealed}
use Rattle.rom_fields.specs.Parts.{HasAt}
use Rattle.rom_fields.proofs.Words.{words_total-append, words_total-word, balance_is, balance_fits}

-- past the word nothing changes
pub drop-sealed : (b : List ℕ) (p : ℕ) → 16 ≤ length b → 16 ≤ p → drop p (sealed b) ≡ drop p b
unfolding sealed
drop-sealed b p h k =
    let w = big_bytes 4 (balance (words_total (take 512 b))) in
    let n : length (take 12 b ++ w) ≡ 16 = omega (arith, length-append (take 12 b) w, length-take 12 b) in
    let e : p ≡ 16 + (p - 16) = omega arith in
    let s : drop 16 ((take 12 b ++ w) ++ drop 16 b) ≡ drop 16 b = drop_at (take 12 b ++ w) (drop 16 b) 16 n in
    ap (λ (q : ℕ). drop q (take 12 b ++ (w ++ drop 16 b))) e
    ∙ sym (drop-drop (p - 16) 16 (take 12 b ++ (w ++ drop 16 b)))
    ∙ ap (λ (x : List ℕ). drop (p - 16) (drop 16 x)) (sym (append_assoc (take 12 b) w (drop 16 b)))
    ∙ ap (drop (p - 16)) s ∙ drop-drop (p - 16) 16 b ∙ ap (λ (q : ℕ). drop q b) (sym e)

pub HasAt-sealed : (b : List ℕ) (p : ℕ) (bytes : List ℕ) → 16 ≤ length b → 16 ≤ p → HasAt b p bytes
    → HasAt (sealed b) p bytes
HasAt-sealed b p bytes h k (back, e) = (back, drop-sealed b p h k ∙ e)

take_over : (front word back : List ℕ) (n : ℕ) → length front ≡ 12 → length word ≡ 4
    → take (16 + n) (front ++ (word ++ back)) ≡ front ++ (word ++ take n back)
take_over front word back n h k =
    let l : 16 + n ≡ length (front ++ word) + n = omega (arith, length-append front word) in
    ap (take (16 + n)) (sym (append_assoc front word back)) ∙ ap (λ (q : ℕ). take q ((front ++ word) ++ back)) l
    ∙ take-append-add (front ++ word) back n ∙ append_assoc front word (take n back)

-- the words from the front, with a zero word at 12
total_around : (b : List ℕ) (n : ℕ) → 16 ≤ length b → HasAt b 12 (big_bytes 4 0)
    → words_total (take (16 + n) b) ≡ words_total (take 12 b) + words_total (take n (drop 16 b))
total_around b n h (back, e) =
    let z = big_bytes 4 0 in
    let front = take 12 b in
    let lf : length front ≡ 12 = omega (arith, length-take 12 b) in
    let whole : b ≡ front ++ (z ++ back) = sym (take-append-drop 12 b) ∙ ap (λ (x : List ℕ). front ++ x) e in
    let rest : drop 16 b ≡ back = sym (drop-drop 4 12 b) ∙ ap (drop 4) e in
    let t : take (16 + n) b ≡ front ++ (z ++ take n back) =
    ap (take (16 + n)) whole ∙ take_over front z back n lf refl in
    let a = words_total-append 3 front (z ++ take n back) lf in
    let c = words_total-word 0 (take n back) (omega arith) in
    let r : words_total (take n back) ≡ words_total (take n (drop 16 b)) =
    ap (λ (x : List ℕ). words_total (take n x)) (sym rest) in
    let s : words_total (take (16 + n) b) ≡ words_total (front ++ (z ++ take n back)) = ap words_total t in
    omega (arith, a, c, r, s)

pub words_sum-sealed : (b : List ℕ) → 16 ≤ length b → HasAt b 12 (big_bytes 4 0) → words_sum (take 512 (sealed b)) ≡ 0
unfolding words_sum sealed
words_sum-sealed b h zeros =
    let x = balance (words_total (take 512 b)) in
    let w = big_bytes 4 x in
    let front = take 12 b in
    let back = take 496 (drop 16 b) in
    let lf : length front ≡ 12 = omega (arith, length-take 12 b) in
    let t : take 512 (front ++ (w ++ drop 16 b)) ≡ front ++ (w ++ back) = take_over front w (drop 16 b) 496 lf refl in
    let a = words_total-append 3 front (w ++ back) lf in
    let c = words_total-word x back (balance_fits (words_total (take 512 b))) in
    let d = total_around b 496 h zeros in
    let s : words_total (front ++ (w ++ back)) ≡ words_total (take 512 b) + x = omega (arith, a, c, d) in
    ap (λ (y : List ℕ). words_total y % 2 ^ 32) t ∙ ap (λ (m : ℕ). m % 2 ^ 32) s ∙ balance_is (words_total (take 512 b))
