-- A header and a superblock that are written piece by piece.
use Rattle.std.proofs.Common.{◌≡◌, ℕ, ◌+◌, ◌-◌, ◌^◌, ◌%◌, List, ◌++◌, length, drop, take, replicate, refl, sym, ap, ◌∙◌}
use Rattle.std.proofs.Common.{arith, append_assoc, length-append}
use Rattle.std.proofs.lemmas.List.{length-replicate, drop_at, take_at, replicate-append-replicate}
use Rattle.byteorder.specs.Endian.{big_bytes}
use Rattle.rom_fields.specs.Words.{words_total, words_sum}
use Rattle.rom_fields.specs.Sums.{balance, balanced}
use Rattle.rom_fields.proofs.Words.{words_total-append, words_total-word}
use Rattle.romfs_format.specs.Record.{pad16}
use Rattle.romfs_format.specs.Tree.{magic}
use Rattle.romfs_layout.specs.Layout.{header_bytes, padded_name, record_len}
use Rattle.romfs_write.specs.Form.{superblock_storing}

-- bytes over as many others
over : (a old w rest : List ℕ) (p : ℕ) → length a ≡ p → length old ≡ length w
    → take p (a ++ (old ++ rest)) ++ (w ++ drop (p + length w) (a ++ (old ++ rest))) ≡ a ++ (w ++ rest)
over a old w rest p h k =
    let t : take p (a ++ (old ++ rest)) ≡ a = take_at a (old ++ rest) p h in
    let n : length (a ++ old) ≡ p + length w = omega (arith, length-append a old) in
    let d : drop (p + length w) (a ++ (old ++ rest)) ≡ rest =
    ap (drop (p + length w)) (sym (append_assoc a old rest)) ∙ drop_at (a ++ old) rest (p + length w) n in
    ap (λ (x : List ℕ). x ++ (w ++ drop (p + length w) (a ++ (old ++ rest)))) t ∙ ap (λ (x : List ℕ). a ++ (w ++ x)) d

-- the words of a header without its sum, and the word that balances them
balance_of : (front back : List ℕ) → length front ≡ 12
    → (2 ^ 32 - words_sum (front ++ (big_bytes 4 0 ++ back))) % 2 ^ 32 ≡ balance (words_total front + words_total back)
unfolding words_sum balance
balance_of front back h =
    let a = words_total-append 3 front (big_bytes 4 0 ++ back) h in
    let c = words_total-word 0 back (omega arith) in
    let s : words_total (front ++ (big_bytes 4 0 ++ back)) ≡ words_total front + words_total back =
    omega (arith, a, c) in
    ap (λ (n : ℕ). (2 ^ 32 - n % 2 ^ 32) % 2 ^ 32) s

-- sixteen bytes for words, and room for a name
room_is : (name : List ℕ) → let z = big_bytes 4 0 in
    replicate (record_len name) 0 ≡ z ++
    (z ++ (z ++ (z ++ (replicate (length name) 0 ++ replicate (pad16 (length name + 1) - length name) 0))))
room_is name =
    let k = pad16 (length name + 1) - length name in
    let n : record_len name ≡ 16 + (length name + k) = omega arith in
    ap (λ (m : ℕ). replicate m 0) n ∙ sym (replicate-append-replicate 16 (length name + k) 0)
    ∙ ap (λ (x : List ℕ). replicate {A = ℕ} 16 0 ++ x) (sym (replicate-append-replicate (length name) k 0))

pub header_built : (x0 x1 x2 x3 x4 x5 : List ℕ) (next spec size s : ℕ) (name : List ℕ)
    → x0 ≡ replicate (record_len name) 0 → x1 ≡ take 0 x0 ++ (big_bytes 4 next ++ drop 4 x0)
    → x2 ≡ take 4 x1 ++ (big_bytes 4 spec ++ drop 8 x1) → x3 ≡ take 8 x2 ++ (big_bytes 4 size ++ drop 12 x2)
    → x4 ≡ take 16 x3 ++ (name ++ drop (16 + length name) x3) → s ≡ (2 ^ 32 - words_sum x4) % 2 ^ 32
    → x5 ≡ take 12 x4 ++ (big_bytes 4 s ++ drop 16 x4) → x5 ≡ header_bytes next spec size name
unfolding header_bytes balanced padded_name
header_built x0 x1 x2 x3 x4 x5 next spec size s name e0 e1 e2 e3 e4 es e5 =
    let z = big_bytes 4 0 in
    let wn = big_bytes 4 next in
    let wp = big_bytes 4 spec in
    let wz = big_bytes 4 size in
    let pad = replicate {A = ℕ} (pad16 (length name + 1) - length name) 0 in
    let none = replicate {A = ℕ} (length name) 0 in
    let rest = none ++ pad in
    let f0 : x0 ≡ z ++ (z ++ (z ++ (z ++ rest))) = e0 ∙ room_is name in
    let f1 : x1 ≡ wn ++ (z ++ (z ++ (z ++ rest))) = e1 ∙ ap (λ (x : List ℕ). take 0 x ++ (wn ++ drop 4 x)) f0 in
    let f2 : x2 ≡ wn ++ (wp ++ (z ++ (z ++ rest))) = e2 ∙ ap (λ (x : List ℕ). take 4 x ++ (wp ++ drop 8 x)) f1 in
    let f3 : x3 ≡ wn ++ (wp ++ (wz ++ (z ++ rest))) = e3 ∙ ap (λ (x : List ℕ). take 8 x ++ (wz ++ drop 12 x)) f2 in
    let numbers = wn ++ (wp ++ wz) in
    let f4 : x4 ≡ numbers ++ (z ++ (name ++ pad)) =
    e4 ∙ ap (λ (x : List ℕ). take 16 x ++ (name ++ drop (16 + length name) x)) f3
    ∙ over (numbers ++ z) none name pad 16 refl (length-replicate (length name) 0) in
    let b : s ≡ balance (words_total numbers + words_total (name ++ pad)) =
    es ∙ ap (λ (x : List ℕ). (2 ^ 32 - words_sum x) % 2 ^ 32) f4 ∙ balance_of numbers (name ++ pad) refl in
    e5 ∙ ap (λ (x : List ℕ). take 12 x ++ (big_bytes 4 s ++ drop 16 x)) f4
    ∙ over numbers z (big_bytes 4 s) (name ++ pad) 12 refl refl
    ∙ ap (λ (m : ℕ). numbers ++ (big_bytes 4 m ++ (name ++ pad))) b

pub superblock_built : (x0 x1 x2 x3 x4 : List ℕ) (size sum : ℕ) (name : List ℕ)
    → x0 ≡ replicate (record_len name) 0 → x1 ≡ take 0 x0 ++ (magic ++ drop 8 x0)
    → x2 ≡ take 8 x1 ++ (big_bytes 4 size ++ drop 12 x1) → x3 ≡ take 12 x2 ++ (big_bytes 4 sum ++ drop 16 x2)
    → x4 ≡ take 16 x3 ++ (name ++ drop (16 + length name) x3) → x4 ≡ superblock_storing sum size name
unfolding padded_name
superblock_built x0 x1 x2 x3 x4 size sum name e0 e1 e2 e3 e4 =
    let z = big_bytes 4 0 in
    let ws = big_bytes 4 size in
    let wv = big_bytes 4 sum in
    let pad = replicate {A = ℕ} (pad16 (length name + 1) - length name) 0 in
    let none = replicate {A = ℕ} (length name) 0 in
    let rest = none ++ pad in
    let f0 : x0 ≡ z ++ (z ++ (z ++ (z ++ rest))) = e0 ∙ room_is name in
    let f1 : x1 ≡ magic ++ (z ++ (z ++ rest)) = e1 ∙ ap (λ (x : List ℕ). take 0 x ++ (magic ++ drop 8 x)) f0 in
    let f2 : x2 ≡ magic ++ (ws ++ (z ++ rest)) = e2 ∙ ap (λ (x : List ℕ). take 8 x ++ (ws ++ drop 12 x)) f1 in
    let f3 : x3 ≡ magic ++ (ws ++ (wv ++ rest)) = e3 ∙ ap (λ (x : List ℕ). take 12 x ++ (wv ++ drop 16 x)) f2 in
    let front = magic ++ (ws ++ wv) in
    e4 ∙ ap (λ (x : List ℕ). take 16 x ++ (name ++ drop (16 + length name) x)) f3
    ∙ over front none name pad 16 refl (length-replicate (length name) 0)
