-- The lines after an image's facts: whether it fits into a number of bytes, and what is then left.
-- (This project's own.)
use Rattle.std.specs.Prelude.{ℕ, ◌-◌, Bool, true, false, not, nat_lt, List, ◌++◌, codes}
use Rattle.image_check.specs.Any.{size_of}
use Rattle.image_check.specs.declared.any.AnyImage.{AnyImage}
use Rattle.image_info.specs.Gaps.{gaps_of}
use Rattle.image_info.specs.Info.{number_line, plain_line}

-- an image has no more bytes than this
abbrev pub fits : ℕ → AnyImage → Bool
fits limit a = not (nat_lt limit (size_of a))

abbrev pub fits_word : Bool → List ℕ
fits_word true = codes "yes"
fits_word false = codes "no"

-- the lines for a size and a limit: how many bytes are unused, whether the image fits, and how many
-- bytes are left, 0 if it does not fit
unfoldable pub room_lines : ℕ → ℕ → ℕ → List ℕ
room_lines free size limit =
    number_line (codes "free ") free
    ++ (plain_line (codes "fits ") (fits_word (not (nat_lt limit size)))
    ++ number_line (codes "left ") (limit - size))

-- the lines of an image
abbrev pub room_text : ℕ → AnyImage → List ℕ
room_text limit a = room_lines (gaps_of a) (size_of a) limit
