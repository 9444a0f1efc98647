-- Hexadecimal text, piece by piece.
use Rattle.std.proofs.Common.{◌≡◌, ℕ, List, [], ◌∷◌, ◌++◌, ◌∙◌, ap, sym, refl, length, take, drop, slice_index, ◌/◌}
use Rattle.std.proofs.Common.{◌%◌, ◌<◌, arith}
use Rattle.std.proofs.lemmas.List.{take-append-drop}
use Rattle.hex.specs.Hex.{encode_lower, encode_with, lower_digits}
use Rattle.serve_lines.specs.Texts.{hex_text}

encode_with-append : (t xs ys : List ℕ) → encode_with t (xs ++ ys) ≡ encode_with t xs ++ encode_with t ys
unfolding encode_with
encode_with-append t [] ys = refl
encode_with-append t (x ∷ xs) ys =
    ap (λ r. slice_index t (x / 16) ∷ slice_index t (x % 16) ∷ r) (encode_with-append t xs ys)

pub encode_lower-cut : (xs front back : List ℕ) (n : ℕ) → front ≡ take n xs → back ≡ drop n xs
    → encode_lower xs ≡ encode_lower front ++ encode_lower back
encode_lower-cut xs front back n f b =
    ap encode_lower (sym (take-append-drop n xs)) ∙ encode_with-append lower_digits (take n xs) (drop n xs)
    ∙ ap (λ t. encode_lower t ++ encode_lower (drop n xs)) (sym f)
    ∙ ap (λ t. encode_lower front ++ encode_lower t) (sym b)

pub encode_lower-nil : (xs : List ℕ) → xs ≡ [] → encode_lower xs ≡ []
unfolding encode_with
encode_lower-nil xs e = ap encode_lower e

pub hex_text-some : (bytes : List ℕ) → 0 < length bytes → encode_lower bytes ≡ hex_text bytes
hex_text-some [] h = absurd (omega (arith, h))
hex_text-some (b ∷ bs) h = refl
