-- What is at an address. (This project's own.)
use Rattle.std.specs.Prelude.{ℕ, ◌+◌, ◌-◌, ◌%◌, ◌^◌, Bool, if◌then◌else◌, max, nat_le}
use Rattle.std.specs.Prelude.{nat_lt, List, [], ◌∷◌, length, codes}
use Rattle.std.specs.Prelude.{Option, Some, None}
use Rattle.image_extents.specs.declared.extent.Extent.{Extent}
use Rattle.image_extents.specs.declared.extent.Extents.{Extents}
use Rattle.image_extents.specs.Lines.{between, beyond, run_text, starting}

-- the last extent that begins at an offset or before it
abbrev pub later : Option Extent → Extent → Option Extent
later None x = Some x
later (Some y) x = Some y

abbrev pub last_begun : ℕ → List Extent → Option Extent
last_begun at [] = None
last_begun at (x ∷ xs) =
    if nat_le x.start at then later (last_begun at xs) x else last_begun at xs

-- where the next extent begins, or the accessible bytes end
abbrev pub next_start : ℕ → ℕ → List Extent → ℕ
next_start at size [] = size
next_start at size (x ∷ xs) = if nat_lt at x.start then x.start else next_start at size xs

-- What is at an offset of the accessible bytes, if this is the last extent that begins there or
-- before it: the lines of all extents that begin with this one, if it has the byte; and otherwise
-- the range from its end up to the next extent.
abbrev pub lines_after : ℕ → Extents → ℕ → List Extent → Option Extent → List ℕ
lines_after base e at xs None =
    between base e.bytes.now 0 (next_start at (length e.bytes.now) xs)
lines_after base e at xs (Some x) =
    if nat_lt at (x.start + x.len) then run_text base e (Some at) (starting x.start xs) else
    between base e.bytes.now (x.start + x.len) (next_start at (length e.bytes.now) xs)

unfoldable pub at_text : ℕ → Extents → ℕ → List Extent → List ℕ
at_text base e at xs = lines_after base e at xs (last_begun at xs)

-- the offset of the byte at an address, which may be outside
abbrev pub offset_of : ℕ → ℕ → ℕ
offset_of base address = (address + (2 ^ 64 - base)) % 2 ^ 64

-- whether a file of so many bytes has a byte at the address
abbrev pub is_inside : ℕ → ℕ → Extents → ℕ → Bool
is_inside base file e address =
    nat_lt (offset_of base address) (max (length e.bytes.now) file)

-- what is at an offset of a file of so many bytes, if it has a byte there
abbrev pub inside_text : ℕ → ℕ → Extents → ℕ → List ℕ
inside_text base file e at =
    if nat_lt at (length e.bytes.now) then at_text base e at e.extents.items
    else beyond base (length e.bytes.now) file

-- what is at an address of an image that is in a file of so many bytes
unfoldable pub which_text : ℕ → ℕ → Extents → ℕ → List ℕ
which_text base file e address =
    if is_inside base file e address then inside_text base file e (offset_of base address)
    else codes "err ERANGE\n"
