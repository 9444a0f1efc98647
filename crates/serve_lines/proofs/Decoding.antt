-- A decoded path is no longer than its text.
use Rattle.std.proofs.Common.{◌≡◌, ℕ, ◌+◌, ◌*◌, ◌<◌, ◌≤◌, Bool, true, false, List, [], ◌∷◌, ◌++◌, length, refl, ap, ◌∙◌}
use Rattle.std.proofs.Common.{arith, cond, length-append}
use Rattle.std.specs.Prelude.{codes}
use Rattle.std.specs.Char.{digit_value}
use Rattle.std.specs.Str.{bytes_eq}
use Rattle.percent_encoding.specs.Percent.{percent_decode, is_escape}
use Rattle.serve_lines.specs.Commands.{path_of}

one_shorter : (t : Bool) (x b : ℕ) (xs ys : List ℕ) (n : ℕ) → length xs ≤ n → length ys ≤ n + 2
    → length (cond t (x ∷ xs) (b ∷ ys)) ≤ n + 3
one_shorter true x b xs ys n h k = omega arith
one_shorter false x b xs ys n h k = omega arith

pub decoded_short : (text : List ℕ) → length (percent_decode text) ≤ length text
unfolding percent_decode
decoded_short [] = omega arith
decoded_short (b ∷ []) = omega arith
decoded_short (b ∷ c ∷ []) = omega arith
decoded_short (b ∷ high ∷ low ∷ rest) =
    let k = decoded_short rest in
    let h = decoded_short (high ∷ low ∷ rest) in
    let all = one_shorter (is_escape b high low) (16 * digit_value high + digit_value low) b (percent_decode rest)
    (percent_decode (high ∷ low ∷ rest)) (length rest) k (omega arith) in
    omega arith

-- there is room for the next byte
pub room_left : (text items rest : List ℕ) (b : ℕ) → percent_decode text ≡ items ++ b ∷ rest → length text ≤ 8191
    → length items < 8192
room_left text items rest b e h =
    let all : length (percent_decode text) ≡ length items + length (b ∷ rest) =
    ap length e ∙ length-append items (b ∷ rest) in
    let k = decoded_short text in
    omega arith

pub path_of-dash : (text : List ℕ) → bytes_eq text (codes "-") ≡ true → [] ≡ path_of text
unfolding path_of
path_of-dash text h = rw h refl

pub path_of-text : (text : List ℕ) → bytes_eq text (codes "-") ≡ false → percent_decode text ≡ path_of text
unfolding path_of
path_of-text text h = rw h refl
