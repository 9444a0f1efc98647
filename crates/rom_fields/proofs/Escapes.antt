-- Percent-encoding with the set of escaped bytes is the escape of names.
use Rattle.std.proofs.Common.{◌≡◌, ℕ, zero, suc, ◌<◌, Bool, true, List, [], ◌∷◌, ◌++◌, get_or, refl, ap, ◌∙◌}
use Rattle.std.specs.Prelude.{◌&&◌}
use Rattle.std.specs.Str.{bytes_eq}
use Rattle.std.specs.List.{flat_map}
use Rattle.std.proofs.lemmas.Bool.Decides.{Decides-below_and}
use Rattle.std.proofs.lemmas.Slice.Eq.{bytes_eq-Decides}
use Rattle.percent_encoding.specs.Percent.{encode_byte, percent_encode_byte, percent_encode}
use Rattle.percent_encoding.specs.AsciiSet.{should_percent_encode}
use Rattle.percent_encoding.specs.declared.ascii_set.AsciiSet.{AsciiSet}
use Rattle.rom_fields.specs.Texts.{escaped_byte, escaped}

-- the control characters, the space and `%`
abbrev pub escaped_set : AsciiSet
escaped_set = record { mask = 170141183460469231731687303861912993791 }

-- both escape each byte below n alike
agree : ℕ → Bool
agree zero = true
agree (suc n) = bytes_eq (encode_byte escaped_set n) (escaped_byte n) && agree n

all_agree : agree 256 ≡ true
unfolding agree should_percent_encode percent_encode_byte
all_agree = refl

-- what a byte becomes
encode_same : (b : ℕ) → b < 256 → encode_byte escaped_set b ≡ escaped_byte b
unfolding agree
encode_same b small =
    (Decides-below_and (λ n. bytes_eq (encode_byte escaped_set n) (escaped_byte n))
    (λ n. encode_byte escaped_set n ≡ escaped_byte n) agree
    (λ n. bytes_eq-Decides (encode_byte escaped_set n) (escaped_byte n)) refl (λ n. refl) 256).0 all_agree b small

-- what bytes become
encode_all : (bytes : List ℕ) → ((i : ℕ) → get_or bytes i 0 < 256)
    → flat_map (encode_byte escaped_set) bytes ≡ flat_map escaped_byte bytes
encode_all [] small = refl
encode_all (b ∷ bytes) small =
    let first = encode_same b (small 0) in
    let rest = encode_all bytes (λ i. small (suc i)) in
    ap (λ (x : List ℕ). x ++ flat_map (encode_byte escaped_set) bytes) first
    ∙ ap (λ (x : List ℕ). escaped_byte b ++ x) rest

pub percent_encode-escaped : (bytes : List ℕ) → ((i : ℕ) → get_or bytes i 0 < 256)
    → percent_encode escaped_set bytes ≡ escaped bytes
unfolding percent_encode escaped
percent_encode-escaped bytes small = encode_all bytes small
