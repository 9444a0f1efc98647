-- `pieces`: a text cut at a byte. `octal`, `decimal`: the numbers of texts of digits. `is_bad`: a
-- text is too long, or has a zero byte. (This project's own. A digit is a byte from 48 on, as in
-- ASCII.)
use Rattle.std.specs.Prelude.{ℕ, ◌+◌, ◌-◌, ◌*◌, ◌^◌, ◌==◌, ◌||◌, ◌&&◌, nat_lt, not, Bool, true}
use Rattle.std.specs.Prelude.{false, if◌then◌else◌, List, [], ◌∷◌, length, Option, Some, None}
use Rattle.std.specs.Borrow.{Bor}
use Rattle.std.specs.List.{slice_split, list_any}

-- the pieces of a text between the bytes c; their number is one more than that of these bytes
abbrev pub pieces : ℕ → List ℕ → List (List ℕ)
pieces c bs = slice_split (λ b. b == c) bs

-- the pieces of the rest of a text, if there is a rest
abbrev pub pieces_after : ℕ → Option (Bor (List ℕ)) → List (List ℕ)
pieces_after c None = []
pieces_after c (Some bs) = pieces c bs.now

-- a measure of the rest that is still to be read
abbrev pub weight : Option (Bor (List ℕ)) → ℕ
weight None = 0
weight (Some bs) = length bs.now + 1

abbrev pub is_empty : List ℕ → Bool
is_empty [] = true
is_empty (b ∷ bs) = false

abbrev pub is_digit : ℕ → ℕ → Bool
is_digit base b = not (nat_lt b 48) && nat_lt b (48 + base)

-- the number of these digits to a base; `so_far` is the number of the digits before them
abbrev pub digits_from : ℕ → ℕ → List ℕ → Option ℕ
digits_from base so_far [] = Some so_far
digits_from base so_far (b ∷ bs) =
    if is_digit base b then digits_from base (so_far * base + (b - 48)) bs else None

-- a mode: four octal digits
unfoldable pub octal : List ℕ → Option ℕ
octal bs = if length bs == 4 then digits_from 8 0 bs else None

abbrev pub below : ℕ → Option ℕ → Option ℕ
below most None = None
below most (Some n) = if nat_lt n most then Some n else None

abbrev pub has_leading_zero : List ℕ → Bool
has_leading_zero [] = false
has_leading_zero (b ∷ []) = false
has_leading_zero (b ∷ c ∷ bs) = b == 48

-- any other number: decimal digits without leading zeros, at most 4,294,967,295
unfoldable pub decimal : List ℕ → Option ℕ
decimal bs =
    if is_empty bs || has_leading_zero bs then None else below (2 ^ 32) (digits_from 10 0 bs)

-- longer than `most` bytes, or with a zero byte
abbrev pub is_bad : ℕ → List ℕ → Bool
is_bad most bs = nat_lt most (length bs) || list_any (λ b. b == 0) bs
