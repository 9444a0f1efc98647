-- `moves_text`: a segment for dynamic linking says that the text has relocations, which the dynamic
-- linker writes into it. `file_moves_text`: a file has such a segment. (System V gABI, "Dynamic
-- Section". An entry has a tag and a value, each of the size of an address; DT_NULL ends the
-- table.)
use Rattle.std.specs.Prelude.{ℕ, zero, suc, ◌+◌, ◌-◌, ◌*◌, ◌/◌, ◌%◌, min, ◌==◌, ◌&&◌, ◌||◌, Bool}
use Rattle.std.specs.Prelude.{true, false}
use Rattle.std.specs.Prelude.{if◌then◌else◌, List, length, Result, Ok, Err}
use Rattle.elf_format.specs.Header.{header_of, number, program_at, width}
use Rattle.elf_format.specs.declared.error.ElfError.{ElfError}
use Rattle.elf_format.specs.declared.header.Header.{Header}
use Rattle.elf_format.specs.declared.numbers.Class.{Class}
use Rattle.elf_format.specs.declared.numbers.Order.{Order}
use Rattle.elf_format.specs.declared.program.Program.{Program}

-- DT_TEXTREL, or DT_FLAGS with DF_TEXTREL
abbrev pub is_text_tag : ℕ → ℕ → Bool
is_text_tag tag value = (tag == 22) || ((tag == 30) && (value / 4 % 2 == 1))

-- whether one of n entries from p on is such a one, before a DT_NULL
abbrev pub has_text_tag : Class → Order → List ℕ → ℕ → ℕ → Bool
has_text_tag c o b zero p = false
has_text_tag c o b (suc n) p =
    if number o (width c) b p == 0 then false
    else (if is_text_tag (number o (width c) b p) (number o (width c) b (p + width c)) then true
    else has_text_tag c o b n (p + 2 * width c))

-- the number of entries that are wholly in the file
abbrev pub entries_in : Class → List ℕ → Program → ℕ
entries_in c b p = min p.file_size (length b - p.offset) / (2 * width c)

-- PT_DYNAMIC with such an entry
unfoldable pub moves_text : Class → Order → List ℕ → Program → Bool
moves_text c o b p = if p.kind == 2 then has_text_tag c o b (entries_in c b p) p.offset else false

-- whether one of the first n program headers is such a segment
abbrev pub moves_among : List ℕ → Header → ℕ → Bool
moves_among b h zero = false
moves_among b h (suc n) =
    if moves_text h.class h.order b (program_at b h n) then true else moves_among b h n

abbrev pub moves_by : List ℕ → Result Header ElfError → Bool
moves_by b (Ok h) = moves_among b h h.count
moves_by b (Err e) = false

-- whether the file has program headers, and one of them is
unfoldable pub file_moves_text : List ℕ → Bool
file_moves_text b = moves_by b (header_of b)
