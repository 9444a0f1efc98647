-- What a further byte does to a history, and bytes that are gathered.
use Rattle.std.proofs.Common.{◌≡◌, ℕ, zero, suc, ◌+◌, ◌-◌, ◌*◌, ◌<◌, ◌≤◌, ◌^◌, List, [], ◌∷◌, ◌++◌, length, take, drop}
use Rattle.std.proofs.Common.{set, get_or, refl, sym, ap, ◌∙◌, arith, add-one}
use Rattle.std.specs.Int.Bits.{bit_xor}
use Rattle.std.proofs.Math.ListN.{drop_of_length-le}
use Rattle.std.proofs.lemmas.Nat.{xor_lt}
use Rattle.std.proofs.lemmas.List.{length-drop, length-take-le, length-append, get_or-drop, get_or-take, drop-drop}
use Rattle.std.proofs.lemmas.List.{drop-append-le, drop_more, drop-set-add, take_more_set}
use Rattle.crc.specs.Crc.{after_bytes}
use Rattle.crc.specs.History.{steps, added, after_history}
use Rattle.crc.proofs.Xors.{xor_assoc, xor_swap, four, four_same, four_swap}
use Rattle.crc.proofs.Linear.{steps_linear, steps_add}
use Rattle.crc.proofs.Relation.{steps_four, folded}
use Rattle.crc.proofs.Bytes.{first_byte, last_byte}

-- what the last `lag` bytes of a history give except the first of them, which is at k
kept : List ℕ → ℕ → ℕ → ℕ → ℕ
kept h lag k m = steps (8 * (m - lag)) (after_bytes 0 (drop (k + 1) h))

-- what they give
last_added : (h : List ℕ) (lag k n : ℕ) → length h ≡ 300 → lag + k ≡ 300
    → added (drop k h) n ≡ steps (8 * (n - lag)) (after_bytes 0 (drop k h))
unfolding added
last_added h lag k n whole place = let e : length (drop k h) ≡ lag =
    omega (arith, length-drop k h) in ap (λ (l : ℕ). steps (8 * (n - l)) (after_bytes 0 (drop k h))) e

module _ (h : List ℕ) (whole : length h ≡ 300) (lag k m n : ℕ) (place : lag + k ≡ 300) (some : 0 < lag)
    (left : m ≡ n + 1) (room : lag ≤ n) where
  -- the first of them goes
  goes : get_or h k 0 < 256 → added (drop k h) m ≡ bit_xor (kept h lag k m) (steps (8 * m) (get_or h k 0))
  unfolding kept
  goes small =
      let z = get_or h k 0 in
      let r = drop (k + 1) h in
      let long : length r ≡ lag - 1 = omega (arith, length-drop (k + 1) h) in
      let all : (8 * length r + 8) + 8 * (m - lag) ≡ 8 * m = omega arith in
      last_added h lag k m whole place
      ∙ ap (λ (xs : List ℕ). steps (8 * (m - lag)) (after_bytes 0 xs)) (drop_more h k 0 (omega arith))
      ∙ ap (steps (8 * (m - lag))) (first_byte r z small)
      ∙ steps_linear (8 * (m - lag)) (after_bytes 0 r) (steps (8 * length r + 8) z)
      ∙ ap (bit_xor (steps (8 * (m - lag)) (after_bytes 0 r)))
      (sym (steps_add (8 * length r + 8) (8 * (m - lag)) z) ∙ ap (λ (i : ℕ). steps i z) all)

  -- a further byte comes
  comes : (y : ℕ) → y < 256 → added (drop k (drop 1 h ++ y ∷ [])) n ≡ bit_xor (kept h lag k m) (steps (8 * (m - lag)) y)
  unfolding kept
  comes y small =
      let r = drop (k + 1) h in
      let whole' : length (drop 1 h ++ y ∷ []) ≡ 300 =
      omega (arith, length-append (drop 1 h) (y ∷ []), length-drop 1 h) in
      let turn : 1 + k ≡ k + 1 = omega arith in
      let fits : k ≤ length (drop 1 h) = omega (arith, length-drop 1 h) in
      let last : drop k (drop 1 h ++ y ∷ []) ≡ r ++ y ∷ [] =
      drop-append-le k (drop 1 h) (y ∷ []) fits
      ∙ ap (λ (xs : List ℕ). xs ++ y ∷ []) (drop-drop k 1 h ∙ ap (λ (i : ℕ). drop i h) turn) in
      let all : 8 + 8 * (n - lag) ≡ 8 * (m - lag) = omega arith in
      let later : (x : ℕ) → steps (8 * (n - lag)) (steps 8 x) ≡ steps (8 * (m - lag)) x =
      λ x. sym (steps_add 8 (8 * (n - lag)) x) ∙ ap (λ (i : ℕ). steps i x) all in
      last_added (drop 1 h ++ y ∷ []) lag k n whole' place
      ∙ ap (λ (xs : List ℕ). steps (8 * (n - lag)) (after_bytes 0 xs)) last
      ∙ ap (steps (8 * (n - lag))) (last_byte r y small)
      ∙ steps_linear (8 * (n - lag)) (steps 8 (after_bytes 0 r)) (steps 8 y)
      ∙ ap (λ (x : ℕ). bit_xor x (steps (8 * (n - lag)) (steps 8 y))) (later (after_bytes 0 r))
      ∙ ap (bit_xor (steps (8 * (m - lag)) (after_bytes 0 r))) (later y)

-- The next byte, with those added that stand 145, 183, 211 and 300 before it, goes over into the history.
history_step : (h t : List ℕ) (x y : ℕ) → length h ≡ 300 → 300 ≤ length t → x < 256 → y < 256
    → ((k : ℕ) → k < 300 → get_or h k 0 < 256)
    → y ≡ bit_xor x (bit_xor (bit_xor (bit_xor (get_or h 155 0) (get_or h 117 0)) (get_or h 89 0)) (get_or h 0 0))
    → after_history (drop 1 h ++ y ∷ []) t ≡ after_history h (x ∷ t)
unfolding after_history
history_step h t x y whole long low small bytes sum =
    let n = length t in
    let m = length (x ∷ t) in
    let left : m ≡ n + 1 = sym (add-one n) in
    let all : 8 * n + 8 ≡ 8 * m = omega arith in
    let X = after_bytes 0 t in
    let a = get_or h 155 0 in
    let b = get_or h 117 0 in
    let c = get_or h 89 0 in
    let d = get_or h 0 0 in
    let A = kept h 145 155 m in
    let B = kept h 183 117 m in
    let C = kept h 211 89 m in
    let D = kept h 300 0 m in
    let S = steps (8 * m) in
    let j = 8 * (m - 300) in
    let new : four (added (drop 155 (drop 1 h ++ y ∷ [])) n) (added (drop 117 (drop 1 h ++ y ∷ [])) n)
    (added (drop 89 (drop 1 h ++ y ∷ [])) n) (added (drop 1 h ++ y ∷ []) n)
    ≡ bit_xor (four A B C D) (four (steps (8 * (m - 145)) y) (steps (8 * (m - 183)) y) (steps (8 * (m - 211)) y)
    (steps j y)) =
    four_same (comes h whole 145 155 m n refl (omega arith) left (omega arith) y small)
    (comes h whole 183 117 m n refl (omega arith) left (omega arith) y small)
    (comes h whole 211 89 m n refl (omega arith) left (omega arith) y small)
    (comes h whole 300 0 m n refl (omega arith) left (omega arith) y small)
    ∙ four_swap A (steps (8 * (m - 145)) y) B (steps (8 * (m - 183)) y) C (steps (8 * (m - 211)) y) D (steps j y) in
    let old : four (added (drop 155 h) m) (added (drop 117 h) m) (added (drop 89 h) m) (added h m)
    ≡ bit_xor (four A B C D) (four (S a) (S b) (S c) (S d)) =
    four_same (goes h whole 145 155 m n refl (omega arith) left (omega arith) (bytes 155 (omega arith)))
    (goes h whole 183 117 m n refl (omega arith) left (omega arith) (bytes 117 (omega arith)))
    (goes h whole 211 89 m n refl (omega arith) left (omega arith) (bytes 89 (omega arith)))
    (goes h whole 300 0 m n refl (omega arith) left (omega arith) (bytes 0 (omega arith)))
    ∙ four_swap A (S a) B (S b) C (S c) D (S d) in
    let wide : y < 2 ^ 32 = omega arith in
    let k0 : 2400 + j ≡ 8 * m = omega arith in
    let k1 : 1240 + j ≡ 8 * (m - 145) = omega arith in
    let k2 : 936 + j ≡ 8 * (m - 183) = omega arith in
    let k3 : 712 + j ≡ 8 * (m - 211) = omega arith in
    let at : (i l : ℕ) → i ≡ l → steps i y ≡ steps l y = λ i l e. ap (λ (v : ℕ). steps v y) e in
    let spread : S y ≡ four (steps (8 * (m - 145)) y) (steps (8 * (m - 183)) y) (steps (8 * (m - 211)) y) (steps j y) =
    sym (at (2400 + j) (8 * m) k0) ∙ folded j y wide
    ∙ four_same (at (1240 + j) (8 * (m - 145)) k1) (at (936 + j) (8 * (m - 183)) k2)
    (at (712 + j) (8 * (m - 211)) k3) refl in
    let sums : S y ≡ bit_xor (S x) (four (S a) (S b) (S c) (S d)) =
    ap S (sum ∙ ap (bit_xor x) (xor_assoc (bit_xor a b) c d ∙ xor_assoc a b (bit_xor c d)))
    ∙ steps_linear (8 * m) x (four a b c d) ∙ ap (bit_xor (S x)) (steps_four (8 * m) a b c d) in
    ap (bit_xor X) (new ∙ ap (bit_xor (four A B C D)) (sym spread ∙ sums))
    ∙ sym (xor_assoc X (four A B C D) (bit_xor (S x) (four (S a) (S b) (S c) (S d))))
    ∙ sym (ap (λ (v : ℕ). bit_xor v (four (added (drop 155 h) m) (added (drop 117 h) m) (added (drop 89 h) m)
    (added h m))) (first_byte t x low ∙ ap (λ (i : ℕ). bit_xor X (steps i x)) all)
    ∙ ap (bit_xor (bit_xor X (S x))) old ∙ xor_swap X (S x) (four A B C D) (four (S a) (S b) (S c) (S d)))

-- the history after a byte is put behind it
moved : (b : List ℕ) (i y : ℕ) → i + 300 < length b
    → take 300 (drop (i + 1) (set b (i + 300) y)) ≡ drop 1 (take 300 (drop i b)) ++ y ∷ []
moved b i y room =
    let e : i + 300 ≡ i + 1 + 299 = omega arith in
    let long : 299 < length (drop (i + 1) b) = omega (arith, length-drop (i + 1) b) in
    ap (λ (k : ℕ). take 300 (drop (i + 1) (set b k y))) e ∙ ap (take 300) (drop-set-add (i + 1) b 299 y)
    ∙ take_more_set (drop (i + 1) b) 299 y long
    ∙ ap (λ (xs : List ℕ). drop 1 (take 300 xs) ++ y ∷ []) (sym (drop_more b i 0 (omega arith)))

-- a byte that is gathered
pub gathers : (b bytes next : List ℕ) (i y : ℕ) → i < length bytes → length bytes + 300 ≤ length b → 300 ≤ length next
    → ((k : ℕ) → get_or b k 0 < 256) → get_or bytes i 0 < 256 → y < 256
    → y ≡ bit_xor (get_or bytes i 0) (bit_xor
    (bit_xor (bit_xor (get_or b (i + 155) 0) (get_or b (i + 117) 0)) (get_or b (i + 89) 0)) (get_or b i 0))
    → after_history (take 300 (drop (i + 1) (set b (i + 300) y))) (drop (i + 1) bytes ++ next)
    ≡ after_history (take 300 (drop i b)) (drop i bytes ++ next)
gathers b bytes next i y here room more small low high sum =
    let h = take 300 (drop i b) in
    let t = drop (i + 1) bytes ++ next in
    let x = get_or bytes i 0 in
    let behind : 300 ≤ length (drop i b) = omega (arith, length-drop i b) in
    let whole : length h ≡ 300 = length-take-le 300 (drop i b) behind in
    let long : 300 ≤ length t = omega (arith, length-append (drop (i + 1) bytes) next) in
    let read : (k : ℕ) → k < 300 → get_or h k 0 ≡ get_or b (i + k) 0 =
    λ k l. get_or-take 300 (drop i b) k 0 l ∙ get_or-drop i b k 0 in
    let bytes' : (k : ℕ) → k < 300 → get_or h k 0 < 256 =
    λ k l. let e = read k l in let s = small (i + k) in omega arith in
    let none : i + 0 ≡ i = omega arith in
    let p = read 155 (omega arith) in
    let q = read 117 (omega arith) in
    let r = read 89 (omega arith) in
    let s = read 0 (omega arith) ∙ ap (λ (k : ℕ). get_or b k 0) none in
    let sum' : y ≡ bit_xor x (bit_xor (bit_xor (bit_xor (get_or h 155 0) (get_or h 117 0)) (get_or h 89 0))
    (get_or h 0 0)) = cc in
    ap (λ (xs : List ℕ). after_history xs t) (moved b i y (omega arith))
    ∙ history_step h t x y whole long low high bytes' sum'
    ∙ ap (λ (xs : List ℕ). after_history h (xs ++ next)) (sym (drop_more bytes i 0 here))

-- no bytes are left to gather
pub gathered : (h bytes next : List ℕ) (i : ℕ) → length bytes ≤ i
    → after_history h (drop i bytes ++ next) ≡ after_history h next
gathered h bytes next i done = ap (λ (xs : List ℕ). after_history h (xs ++ next)) (drop_of_length-le bytes done)

-- each is a byte still
pub small_set : (b : List ℕ) (i y : ℕ) → y < 256 → ((k : ℕ) → get_or b k 0 < 256) → (k : ℕ)
    → get_or (set b i y) k 0 < 256
small_set [] i y low small k = small k
small_set (x ∷ b) zero y low small zero = low
small_set (x ∷ b) zero y low small (suc k) = small (suc k)
small_set (x ∷ b) (suc i) y low small zero = small zero
small_set (x ∷ b) (suc i) y low small (suc k) = small_set b i y low (λ j. small (suc j)) k

pub small_sum : (x a b c d : ℕ) → x < 256 → a < 256 → b < 256 → c < 256 → d < 256
    → bit_xor x (bit_xor (bit_xor (bit_xor a b) c) d) < 256
small_sum x a b c d h p q r s = xor_lt 8 x _ h (xor_lt 8 _ d (xor_lt 8 _ c (xor_lt 8 a b p q) r) s)
