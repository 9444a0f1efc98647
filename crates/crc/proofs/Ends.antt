-- The ends of a gathering: a remainder as a history, pieces that follow each other, and the last 300 bytes.
use Rattle.std.proofs.Common.{◌≡◌, ℕ, ◌+◌, ◌-◌, ◌*◌, ◌<◌, ◌/◌, ◌%◌, ◌≤◌, ◌^◌, List, [], ◌∷◌, ◌++◌, length, take, drop}
use Rattle.std.proofs.Common.{set, get_or, replicate, sym, ap, ◌∙◌, arith, zero-le, take-append-drop}
use Rattle.std.specs.Int.Bits.{bit_xor}
use Rattle.std.proofs.Math.Seq.{paste, take-append_seam}
use Rattle.std.proofs.Math.ListN.{drop_of_length-le}
use Rattle.std.proofs.lemmas.List.Edits.{take-paste}
use Rattle.std.proofs.lemmas.List.{length-drop, length-replicate, drop-drop, drop_more, drop-replicate}
use Rattle.crc.specs.Crc.{after_bytes}
use Rattle.crc.specs.History.{steps, added, after_history, StandsFor}
use Rattle.crc.proofs.Xors.{xor_assoc, xor_turn, zero_xor, xor_zero, four_same, four_turn}
use Rattle.crc.proofs.Linear.{byte_xor, steps_linear, steps_add, bytes_linear}
use Rattle.crc.proofs.Relation.{steps_zero}
use Rattle.crc.proofs.Bytes.{first_byte, zero_bytes, four_bytes}

-- the history comes to the front
pub slides : (b : List ℕ) (n m : ℕ) → m ≡ 300 → n + 300 ≤ length b
    → take 300 (paste b 0 (drop n b) m) ≡ take 300 (drop n b)
slides b n m e room =
    let behind : 300 ≤ length (drop n b) = omega (arith, length-drop n b) in
    ap (λ (k : ℕ). take 300 (paste b 0 (drop n b) k)) e ∙ take-paste b 0 (drop n b) 300 zero-le behind

-- a history that is in front
pub front : (h xs : List ℕ) → length h ≡ 300 → take 300 (h ++ xs) ≡ h
front h xs whole = ap (λ (k : ℕ). take k (h ++ xs)) (sym whole) ∙ take-append_seam h xs

-- a piece of the bytes goes over into the history
pub pieces : (h bytes : List ℕ) (at count end : ℕ) → end ≡ count
    → after_history h (take end (drop at bytes) ++ drop (at + count) bytes) ≡ after_history h (drop at bytes)
pieces h bytes at count end e =
    ap (λ (k : ℕ). after_history h (take k (drop at bytes) ++ drop (at + count) bytes)) e
    ∙ ap (λ (xs : List ℕ). after_history h (take count (drop at bytes) ++ xs)) (sym (drop-drop count at bytes))
    ∙ ap (after_history h) (take-append-drop count (drop at bytes))

-- one more byte is added, of those that are
pub adds : (b from : List ℕ) (i extra : ℕ) → extra + length from ≡ length b → i < length from → get_or from i 0 < 256
    → bit_xor (after_bytes 0 (set b i (bit_xor (get_or b i 0) (get_or from i 0))))
    (steps (8 * extra) (after_bytes 0 (drop (i + 1) from)))
    ≡ bit_xor (after_bytes 0 b) (steps (8 * extra) (after_bytes 0 (drop i from)))
adds b from i extra whole here small =
    let v = get_or from i 0 in
    let r = drop (i + 1) from in
    let n : ℕ = length b - i in
    let t = steps (8 * extra) (after_bytes 0 r) in
    let all : (8 * length r + 8) + 8 * extra ≡ 8 * n = omega (arith, length-drop (i + 1) from) in
    let rest : steps (8 * extra) (after_bytes 0 (drop i from)) ≡ bit_xor t (steps (8 * n) v) =
    ap (λ (xs : List ℕ). steps (8 * extra) (after_bytes 0 xs)) (drop_more from i 0 here)
    ∙ ap (steps (8 * extra)) (first_byte r v small)
    ∙ steps_linear (8 * extra) (after_bytes 0 r) (steps (8 * length r + 8) v)
    ∙ ap (bit_xor t) (sym (steps_add (8 * length r + 8) (8 * extra) v) ∙ ap (λ (k : ℕ). steps k v) all) in
    ap (λ (x : ℕ). bit_xor x t) (byte_xor b i n 0 v (omega arith) (omega arith) small)
    ∙ xor_turn (after_bytes 0 b) (steps (8 * n) v) t
    ∙ xor_assoc (after_bytes 0 b) t (steps (8 * n) v) ∙ sym (ap (bit_xor (after_bytes 0 b)) rest)

-- all of them are
pub added_all : (a : ℕ) (from : List ℕ) (i extra : ℕ) → length from ≤ i
    → bit_xor a (steps (8 * extra) (after_bytes 0 (drop i from))) ≡ a
added_all a from i extra done = ap (λ (xs : List ℕ). bit_xor a (steps (8 * extra) (after_bytes 0 xs)))
    (drop_of_length-le from done) ∙ ap (bit_xor a) (steps_zero (8 * extra)) ∙ xor_zero a

-- the last 300 bytes, with the history added
pub finishes : (h last h1 h2 h3 b0 b1 b2 b3 b4 : List ℕ) → h1 ≡ drop 155 h → h2 ≡ drop 117 h → h3 ≡ drop 89 h
    → b0 ≡ last
    → length b1 ≡ length b0 → length b2 ≡ length b1 → length b3 ≡ length b2
    → after_bytes 0 b1 ≡ bit_xor (after_bytes 0 b0) (added h1 (length b0))
    → after_bytes 0 b2 ≡ bit_xor (after_bytes 0 b1) (added h2 (length b1))
    → after_bytes 0 b3 ≡ bit_xor (after_bytes 0 b2) (added h3 (length b2))
    → after_bytes 0 b4 ≡ bit_xor (after_bytes 0 b3) (added h (length b3))
    → after_bytes 0 b4 ≡ after_history h last
unfolding after_history
finishes h last h1 h2 h3 b0 b1 b2 b3 b4 of1 of2 of3 e0 n1 n2 n3 e1 e2 e3 e4 =
    let n = length last in
    let sums : after_bytes 0 b4 ≡ bit_xor
    (bit_xor (bit_xor (bit_xor (after_bytes 0 last) (added (drop 155 h) n)) (added (drop 117 h) n))
    (added (drop 89 h) n)) (added h n) = cc in
    sums ∙ four_turn (after_bytes 0 last) (added (drop 155 h) n) (added (drop 117 h) n) (added (drop 89 h) n)
    (added h n)

-- bytes of zero from remainder 0 on
none_of : (k : ℕ) → after_bytes 0 (replicate k 0) ≡ 0
none_of k = zero_bytes k 0 ∙ steps_zero (8 * k)

-- a history of zeros except the first four bytes, which give the remainder c after 300 bytes
starts_of : (c : ℕ) (h : List ℕ) → length h ≡ 300 → after_bytes 0 h ≡ steps 2400 c → drop 4 h ≡ replicate 296 0
    → StandsFor h c
unfolding after_history added
starts_of c h whole first rest = λ next long.
    let n = length next in
    let nothing : (i k : ℕ) → steps i (after_bytes 0 (drop (4 + k) h)) ≡ 0 = λ i k.
    ap (λ (xs : List ℕ). steps i (after_bytes 0 xs)) (sym (drop-drop k 4 h) ∙ ap (drop k) rest ∙ drop-replicate k 296 0)
    ∙ ap (steps i) (none_of (296 - k)) ∙ steps_zero i in
    let all : 2400 + 8 * (n - length h) ≡ 8 * n = omega arith in
    let last : steps (8 * (n - length h)) (after_bytes 0 h) ≡ steps (8 * n) c =
    ap (steps (8 * (n - length h))) first ∙ sym (steps_add 2400 (8 * (n - length h)) c)
    ∙ ap (λ (i : ℕ). steps i c) all in
    ap (bit_xor (after_bytes 0 next)) (four_same (nothing _ 151) (nothing _ 113) (nothing _ 85) last ∙ zero_xor _
    ∙ zero_xor _ ∙ zero_xor _)
    ∙ sym (ap (λ (x : ℕ). after_bytes x next) (sym (zero_xor c)) ∙ bytes_linear next 0 c)

-- a remainder, as a history
pub starts : (c : ℕ) (bs : List ℕ) → bs ≡ c % 256 ∷ c / 256 % 256 ∷ c / 65536 % 256 ∷ c / 16777216 % 256 ∷ []
    → c < 2 ^ 32 → StandsFor (bs ++ replicate 296 0) c
starts c bs e wide =
    let z : List ℕ = replicate 296 0 in
    let two : c / 65536 ≡ c / 256 / 256 = omega arith in
    let three : c / 16777216 ≡ c / 256 / 256 / 256 = omega arith in
    let is : bs ≡ c % 256 ∷ c / 256 % 256 ∷ c / 256 / 256 % 256 ∷ c / 256 / 256 / 256 % 256 ∷ [] = cc in
    let size : 8 * length z + 32 ≡ 2400 = omega (arith, length-replicate {A = ℕ} 296 0) in
    let first : after_bytes 0 (bs ++ z) ≡ steps 2400 c =
    ap (λ (xs : List ℕ). after_bytes 0 (xs ++ z)) is ∙ four_bytes z c wide
    ∙ ap (λ (x : ℕ). bit_xor x (steps (8 * length z + 32) c)) (none_of 296) ∙ zero_xor _
    ∙ ap (λ (k : ℕ). steps k c) size in
    starts_of c (bs ++ z) (ap (λ (xs : List ℕ). length (xs ++ z)) is) first (ap (λ (xs : List ℕ). drop 4 (xs ++ z)) is)
