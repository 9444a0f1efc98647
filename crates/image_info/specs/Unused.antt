-- `unused`: how many of the bytes in a range are in none of the given extents. (This project's
-- own.)
use Rattle.std.specs.Prelude.{ℕ, zero, suc, ◌+◌, nat_lt, Bool, false, if◌then◌else◌, List}
use Rattle.std.specs.List.{list_any}
use Rattle.rom_fields.specs.declared.span.Span.{Span}

-- the byte at p is in the extent
abbrev pub is_in : ℕ → Span → Bool
is_in p x = if nat_lt p x.start then false else nat_lt p (x.start + x.len)

-- the byte at p is in one of them
abbrev pub is_used : List Span → ℕ → Bool
is_used xs p = list_any (is_in p) xs

-- the number of bytes, of the n from p on, that are in none of the extents
abbrev pub unused : List Span → ℕ → ℕ → ℕ
unused xs p zero = 0
unused xs p (suc n) = (if is_used xs p then 0 else 1) + unused xs (suc p) n
