-- Files that Linux can execute in place, by their bytes. (The flat format: Linux
-- include/linux/flat.h, `struct flat_hdr`.)
use Rattle.std.specs.Prelude.{ℕ, ◌==◌, ◌&&◌, ◌||◌, nat_lt, not, Bool, List, length, slice_index}
use Rattle.elf_format.specs.Mapped.{has_fixed}

-- `bFLT`
abbrev pub is_flat : List ℕ → Bool
is_flat b =
    not (nat_lt (length b) 4) && ((slice_index b 0 == 98) && ((slice_index b 1 == 70)
    && ((slice_index b 2 == 76) && (slice_index b 3 == 84))))

-- a program in the flat format; or an ELF program or library with a segment that cannot be written
abbrev pub needs_pages : List ℕ → Bool
needs_pages b = is_flat b || has_fixed b
