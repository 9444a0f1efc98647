-- An ELF file's header and its program headers, of 32 and 64 bits, in either byte order.
-- `BeginsElf`: the bytes begin with a header. `HasPrograms`: its table of program headers is one
-- that Linux loads. `Reads`: what a reader answers. `kind_in`, `header_of`: the same as functions
-- of the bytes. `program_at`: a program header's fields. (System V gABI, "ELF Header" and "Program
-- Header"; elf(5). The limits of the table are those of Linux 6.1 fs/binfmt_elf.c,
-- `load_elf_phdrs`.)
--
--   of 32 bits              of 64 bits
--    4 class 1               4 class 2      byte 5: 1 little-endian, 2 big-endian
--   16 e_type (2 bytes)     16 e_type
--   28 e_phoff (4)          32 e_phoff (8)
--   42 e_phentsize (2)      54 e_phentsize
--   44 e_phnum (2)          56 e_phnum
--   52 bytes in all         64 bytes in all
-- A program header:
--    0 p_type (4)            0 p_type (4)
--    4 p_offset (4)          8 p_offset (8)
--    8 p_vaddr (4)          16 p_vaddr (8)
--   16 p_filesz (4)         32 p_filesz (8)
--   20 p_memsz (4)          40 p_memsz (8)
--   24 p_flags (4)           4 p_flags (4)
--   28 p_align (4)          48 p_align (8)
--   32 bytes in all         56 bytes in all
use Rattle.std.specs.Prelude.{◌≡◌, ℕ, ◌+◌, ◌*◌, ◌≤◌, ◌<◌, List, [], ◌∷◌, length, drop, take}
use Rattle.std.specs.Prelude.{slice_index, Result, Ok, Err, Option, Some, None, Bool, true, false}
use Rattle.std.specs.Prelude.{◌==◌, ◌&&◌, nat_lt, if◌then◌else◌}
use Rattle.byteorder.specs.Endian.{big_number, little_number}
use Rattle.elf_format.specs.declared.error.ElfError.{ElfError}
use Rattle.elf_format.specs.declared.error.ElfError.TheVariants.{NotElf, Table}
use Rattle.elf_format.specs.declared.header.Header.{Header}
use Rattle.elf_format.specs.declared.numbers.Class.{Class}
use Rattle.elf_format.specs.declared.numbers.Class.TheVariants.{Bits32, Bits64}
use Rattle.elf_format.specs.declared.numbers.Order.{Order}
use Rattle.elf_format.specs.declared.numbers.Order.TheVariants.{Little, Big}
use Rattle.elf_format.specs.declared.program.Program.{Program}

-- the number in the n bytes from an offset on
unfoldable pub number : Order → ℕ → List ℕ → ℕ → ℕ
number Little n b at = little_number n (drop at b)
number Big n b at = big_number n (drop at b)

-- one of two values, by the class
abbrev pub by_class : {A : Type 0} → Class → A → A → A
by_class Bits32 x y = x
by_class Bits64 x y = y

-- the byte that names a class, and the one that names a byte order
abbrev pub class_number : Class → ℕ
class_number c = by_class c 1 2

abbrev pub order_number : Order → ℕ
order_number Little = 1
order_number Big = 2

-- the bytes of an address or an offset, of the header, and of a program header
abbrev pub width : Class → ℕ
width c = by_class c 4 8

abbrev pub header_size : Class → ℕ
header_size c = by_class c 52 64

abbrev pub program_size : Class → ℕ
program_size c = by_class c 32 56

-- `\x7fELF`
abbrev pub magic : List ℕ
magic = 127 ∷ 69 ∷ 76 ∷ 70 ∷ []

-- the file begins with a header of this class and byte order
pub record BeginsElf (b : List ℕ) (c : Class) (o : Order) : Type 0 where
  pub long : header_size c ≤ length b
  pub begins : take 4 b ≡ magic
  pub class : slice_index b 4 ≡ class_number c
  pub order : slice_index b 5 ≡ order_number o

-- e_type: 1 an object, 2 a program at a fixed address, 3 a program or a library at any address
unfoldable pub type_of : Order → List ℕ → ℕ
type_of o b = number o 2 b 16

-- the offset of the table, the size of one of its entries, and their number
unfoldable pub table_of : Class → Order → List ℕ → ℕ
table_of c o b = number o (width c) b (by_class c 28 32)

unfoldable pub entry_size_of : Class → Order → List ℕ → ℕ
entry_size_of c o b = number o 2 b (by_class c 42 54)

unfoldable pub count_of : Class → Order → List ℕ → ℕ
count_of c o b = number o 2 b (by_class c 44 56)

-- the table has entries of the size of a program header, some, and not more than a page of them; it
-- is in the file
pub record HasPrograms (b : List ℕ) (c : Class) (o : Order) : Type 0 where
  pub size : entry_size_of c o b ≡ program_size c
  pub some : 0 < count_of c o b
  pub few : count_of c o b * program_size c ≤ 4096
  pub within : table_of c o b + count_of c o b * program_size c ≤ length b

-- the fields of the header, and its table is one that Linux loads
pub record IsHeader (b : List ℕ) (h : Header) : Type 0 where
  pub begins : BeginsElf b h.class h.order
  pub kind : h.kind ≡ type_of h.order b
  pub table : h.table ≡ table_of h.class h.order b
  pub count : h.count ≡ count_of h.class h.order b
  pub programs : HasPrograms b h.class h.order

-- The answer is the header. It is `NotElf` if the file does not begin with one, and `Table` if it
-- does, but its table is none that Linux loads.
abbrev pub Reads : List ℕ → Result Header ElfError → Type 0
Reads b (Ok h) = IsHeader b h
Reads b (Err NotElf) = (c : Class) (o : Order) → BeginsElf b c o → ⊥
Reads b (Err Table) =
    (c : Class) × (o : Order) × BeginsElf b c o × (HasPrograms b c o → ⊥)

-- the fields of the program header at p
unfoldable pub program_in : Class → Order → List ℕ → ℕ → Program
program_in c o b p = record {
  kind = number o 4 b p;
  flags = number o 4 b (p + by_class c 24 4);
  offset = number o (width c) b (p + by_class c 4 8);
  address = number o (width c) b (p + by_class c 8 16);
  file_size = number o (width c) b (p + by_class c 16 32);
  memory_size = number o (width c) b (p + by_class c 20 40);
  align = number o (width c) b (p + by_class c 28 48);
}

-- the i-th program header
abbrev pub program_at : List ℕ → Header → ℕ → Program
program_at b h i = program_in h.class h.order b (h.table + i * program_size h.class)

-- the class and the byte order that two bytes name
abbrev pub class_named : ℕ → Option Class
class_named n = if n == 1 then Some Bits32 else (if n == 2 then Some Bits64 else None)

abbrev pub order_named : ℕ → Option Order
order_named n = if n == 1 then Some Little else (if n == 2 then Some Big else None)

-- whether four bytes are the magic
abbrev pub is_magic : List ℕ → Bool
is_magic b =
    (slice_index b 0 == 127) && ((slice_index b 1 == 69) && ((slice_index b 2 == 76)
    && (slice_index b 3 == 70)))

-- these, if the bytes have a header of the class
abbrev pub within : List ℕ → Option Class → Option Order → Option (Class × Order)
within b None o = None
within b (Some c) None = None
within b (Some c) (Some o) = if nat_lt (length b) (header_size c) then None else Some (c, o)

-- the class and the byte order of the header with which the bytes begin, if they begin with one
unfoldable pub named_in : List ℕ → Option (Class × Order)
named_in b =
    if nat_lt (length b) 52 then None
    else (if is_magic b then within b (class_named (slice_index b 4))
    (order_named (slice_index b 5)) else None)

-- the type that a header of these has, if there is one
abbrev pub kind_by : List ℕ → Option (Class × Order) → Option ℕ
kind_by b None = None
kind_by b (Some p) = Some (type_of p.1 b)

-- the type of the file, if it begins with a header
abbrev pub kind_in : List ℕ → Option ℕ
kind_in b = kind_by b (named_in b)

abbrev pub has_programs : List ℕ → Class → Order → Bool
has_programs b c o =
    if entry_size_of c o b == program_size c then (if count_of c o b == 0 then false
    else (if nat_lt 4096 (count_of c o b * program_size c) then false
    else (if nat_lt (length b) (table_of c o b + count_of c o b * program_size c) then false
    else true))) else false

abbrev pub header_by : List ℕ → Option (Class × Order) → Result Header ElfError
header_by b None = Err NotElf
header_by b (Some p) = if has_programs b p.0 p.1 then Ok (record {
  class = p.0;
  order = p.1;
  kind = type_of p.1 b;
  table = table_of p.0 p.1 b;
  count = count_of p.0 p.1 b;
}) else Err Table

-- what a reader answers
unfoldable pub header_of : List ℕ → Result Header ElfError
header_of b = header_by b (named_in b)
