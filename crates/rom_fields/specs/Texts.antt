-- `octal`, `escaped`: the texts of modes and names. (This project's own.)
use Rattle.std.specs.Prelude.{ℕ, ◌+◌, ◌/◌, ◌%◌, Bool, not, ◌==◌, ◌&&◌, nat_lt, nat_le}
use Rattle.std.specs.Prelude.{if◌then◌else◌, List, [], ◌∷◌}
use Rattle.std.specs.List.{flat_map}

-- the last four octal digits, with leading zeros
unfoldable pub octal : ℕ → List ℕ
octal m = (48 + m / 512 % 8) ∷ (48 + m / 64 % 8) ∷ (48 + m / 8 % 8) ∷ (48 + m % 8) ∷ []

-- a visible ASCII character (21 to 7e, hexadecimal) other than `%`
abbrev pub is_plain : ℕ → Bool
is_plain b = (nat_le 33 b && nat_le b 126) && not (b == 37)

-- the upper-case hexadecimal digit of a number below 16
abbrev pub hexadecimal_digit : ℕ → ℕ
hexadecimal_digit n = if nat_lt n 10 then 48 + n else 55 + n

-- a plain byte as it is, any other as `%` and its two upper-case hexadecimal digits
abbrev pub escaped_byte : ℕ → List ℕ
escaped_byte b =
    if is_plain b then b ∷ [] else 37 ∷ hexadecimal_digit (b / 16) ∷ hexadecimal_digit (b % 16) ∷ []

unfoldable pub escaped : List ℕ → List ℕ
escaped bytes = flat_map escaped_byte bytes
