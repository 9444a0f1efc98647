-- `flat_of`: the pages of a program in the flat format of kernels without an MMU. (Linux 6.1
-- include/linux/flat.h, `struct flat_hdr`, and fs/binfmt_flat.c, `load_flat_file`.)
--
--    0 `bFLT`              20 bss_end
--    4 rev                 36 flags: 1 FLAT_FLAG_RAM, 4 FLAT_FLAG_GZIP
--   12 data_start          64 bytes in all, with words whose highest byte is first
--   16 data_end
use Rattle.std.specs.Prelude.{ℕ, ◌+◌, ◌-◌, ◌/◌, ◌%◌, ◌^◌, ◌==◌, ◌&&◌, ◌||◌, nat_lt, not, Bool}
use Rattle.std.specs.Prelude.{false}
use Rattle.std.specs.Prelude.{if◌then◌else◌, List, length, slice_index, Option, Some, None}
use Rattle.rom_fields.specs.Words.{word_be}
use Rattle.program_pages.specs.declared.counting.ProgramPages.{ProgramPages}

-- the file begins with a header
abbrev pub is_flat : List ℕ → Bool
is_flat b =
    not (nat_lt (length b) 64) && ((slice_index b 0 == 98) && ((slice_index b 1 == 70)
    && ((slice_index b 2 == 76) && (slice_index b 3 == 84))))

-- the ends are in order, the text is in the file, and no part has 2^28 bytes
abbrev pub is_laid : ℕ → ℕ → ℕ → ℕ → Bool
is_laid size text init bss =
    if nat_lt text 64 then false
    else (if nat_lt size text then false
    else (if nat_lt init text then false
    else (if nat_lt bss init then false
    else (nat_lt text (2 ^ 28)
    && (nat_lt (init - text) (2 ^ 28) && nat_lt (bss - init) (2 ^ 28))))))

abbrev pub pages_in : ℕ → ℕ
pages_in n = (n + 4095) / 4096

-- the whole program is read into memory
abbrev pub is_in_ram : ℕ → Bool
is_in_ram flags = (flags % 2 == 1) || (flags / 4 % 2 == 1)

-- the pages of a program of `size` bytes whose text, data and zeros end there; the text is in place
-- unless it is read into memory
abbrev pub flat_with : Bool → ℕ → ℕ → ℕ → ℕ → ProgramPages
flat_with ram size text init bss = record {
  in_place = if ram then 0 else pages_in text;
  copied = if ram then pages_in init else pages_in (init - text);
  fixed = if ram then 0 else pages_in text;
  zero = pages_in (bss - text) - pages_in (init - text);
  used = size;
}

-- the pages of a file with a header, if Linux loads it; its data may be compressed
unfoldable pub flat_of : List ℕ → Option ProgramPages
flat_of b =
    if word_be b 4 == 4 then
    (if is_laid (length b) (word_be b 12) (word_be b 16) (word_be b 20)
    then Some (flat_with (is_in_ram (word_be b 36)) (length b) (word_be b 12) (word_be b 16)
    (word_be b 20)) else None) else None
