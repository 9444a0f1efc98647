-- `pages_of`: how many pages of a program in the flash Linux maps in place, and how many it copies
-- into memory. (This project's own. What is loaded is `elf_format.specs.Loading`, and what of it is
-- mapped is `program_pages.specs.InPlace`, or without an MMU `program_pages.specs.Physmem`. What
-- the dynamic linker writes of it is from glibc 2.36 elf/dl-map-segments.h, `_dl_map_segments`.)
use Rattle.std.specs.Prelude.{ℕ, zero, suc, ◌+◌, ◌-◌, ◌%◌, ◌==◌, ◌&&◌, max, min, nat_lt, not, List}
use Rattle.std.specs.Prelude.{Bool, true, false, if◌then◌else◌}
use Rattle.std.specs.Prelude.{Result, Ok, Err, Option, Some, None}
use Rattle.rom_fields.specs.Words.{part_of}
use Rattle.program_pages.specs.Physmem.{Flash}
use Rattle.program_pages.specs.InPlace.{pages_in_place}
use Rattle.program_pages.specs.declared.mapping.Mapping.{Mapping}
use Rattle.elf_format.specs.Header.{header_of, program_at}
use Rattle.elf_format.specs.Loading.{loaded, zero_pages}
use Rattle.elf_format.specs.declared.error.ElfError.{ElfError}
use Rattle.elf_format.specs.declared.error.ElfError.TheVariants as elf
use Rattle.elf_format.specs.declared.header.Header.{Header}
use Rattle.elf_format.specs.declared.loading.Loading.{Loading}
use Rattle.elf_format.specs.declared.loading.Loading.TheVariants.{Nothing, Refused, Pages}
use Rattle.elf_format.specs.declared.program.Program.{Program}
use Rattle.program_pages.specs.declared.counting.ProgramPages.{ProgramPages}
use Rattle.program_pages.specs.declared.counting.NoProgram.{NoProgram}
use Rattle.program_pages.specs.declared.counting.NoProgram.TheVariants.{NotElf, BadTable}
use Rattle.program_pages.specs.declared.counting.NoProgram.TheVariants.{Unloadable}

-- the flash of these bytes that begins at this address
abbrev pub flash_at : List ℕ → ℕ → Flash
flash_at b a = record { bytes = b; address = a }

-- PT_DYNAMIC with bytes in the file (files of symbols for debuggers have none)
abbrev pub is_dynamic : Program → Bool
is_dynamic p = (p.kind == 2) && nat_lt 0 p.file_size

-- whether one of the first n program headers is such a one
abbrev pub dynamic_among : List ℕ → Header → ℕ → Bool
dynamic_among b h zero = false
dynamic_among b h (suc n) = if is_dynamic (program_at b h n) then true else dynamic_among b h n

-- The dynamic linker loads files of the type ET_DYN with such a program header. (Linux loads such
-- programs as well. Which of both does it is not in the file, so here the dynamic linker is taken
-- to.) Without an MMU it does not write into pages of the flash.
abbrev pub is_linked : Bool → List ℕ → Header → Bool
is_linked no_mmu b h = not no_mmu && ((h.kind == 3) && dynamic_among b h h.count)

-- The dynamic linker writes zeros behind the bytes of a segment into its last page, if the segment
-- has more bytes in memory and its bytes do not end with a page, even if the segment cannot be
-- written. (Linux leaves such a page of a program as it is: in fs/binfmt_elf.c, `padzero` cannot
-- write it, and `elf_load` does not look at its result.)
abbrev pub is_zeroed : Bool → Program → Bool
is_zeroed linked p =
    linked && (nat_lt p.file_size p.memory_size && not ((p.address + p.file_size) % 4096 == 0))

-- those that stay in place, of the first of `count` pages, if the last page is written
abbrev pub kept : Bool → ℕ → ℕ → ℕ
kept zeroed count placed = if zeroed then min placed (count - 1) else placed

-- the pages of a mapping of the file of `size` bytes from `start` on that are in place; without an
-- MMU these are all, if they cannot be written
abbrev pub placed_in : Flash → Bool → ℕ → ℕ → Mapping → ℕ
placed_in f no_mmu start size m =
    if no_mmu then (if m.writable then 0 else m.count) else pages_in_place f start size m

-- the same of what is loaded, if its last page is written or not
abbrev pub placed_of : Flash → Bool → ℕ → ℕ → Bool → Loading → ℕ
placed_of f no_mmu start size zeroed Nothing = 0
placed_of f no_mmu start size zeroed Refused = 0
placed_of f no_mmu start size zeroed (Pages first count writable) =
    kept zeroed count
    (placed_in f no_mmu start size (record { first = first; count = count; writable = writable }))

-- the number of pages that are loaded, and of those of them that are not written
abbrev pub loaded_pages : Loading → ℕ
loaded_pages Nothing = 0
loaded_pages Refused = 0
loaded_pages (Pages first count writable) = count

abbrev pub fixed_pages : Bool → Loading → ℕ
fixed_pages zeroed Nothing = 0
fixed_pages zeroed Refused = 0
fixed_pages zeroed (Pages first count writable) =
    if writable then 0 else kept zeroed count count

-- the end of the bytes of a program header that is loaded
abbrev pub used_by : Program → Loading → ℕ
used_by p Nothing = 0
used_by p Refused = 0
used_by p (Pages first count writable) = p.offset + p.file_size

abbrev pub is_refused : Loading → Bool
is_refused Nothing = false
is_refused Refused = true
is_refused (Pages first count writable) = false

-- the pages of a program header of a file that the dynamic linker loads or does not
abbrev pub segment_pages : Flash → Bool → ℕ → ℕ → Bool → Program → ProgramPages
segment_pages f no_mmu start size linked p = record {
  in_place = placed_of f no_mmu start size (is_zeroed linked p) (loaded size p);
  copied =
      loaded_pages (loaded size p)
      - placed_of f no_mmu start size (is_zeroed linked p) (loaded size p);
  fixed = fixed_pages (is_zeroed linked p) (loaded size p);
  zero = zero_pages p;
  used = used_by p (loaded size p);
}

-- these, if Linux loads it
abbrev pub segment_of : Flash → Bool → ℕ → ℕ → Bool → Program → Option ProgramPages
segment_of f no_mmu start size linked p =
    if is_refused (loaded size p) then None else Some (segment_pages f no_mmu start size linked p)

abbrev pub no_pages : ProgramPages
no_pages = record { in_place = 0; copied = 0; fixed = 0; zero = 0; used = 0 }

abbrev pub plus : ProgramPages → ProgramPages → ProgramPages
plus p q = record {
  in_place = p.in_place + q.in_place;
  copied = p.copied + q.copied;
  fixed = p.fixed + q.fixed;
  zero = p.zero + q.zero;
  used = max p.used q.used;
}

-- the sums over the first n program headers of the file b, and the greatest end
abbrev pub pages_sum : Flash → Bool → ℕ → ℕ → List ℕ → Header → ℕ → ProgramPages
pages_sum f no_mmu start size b h zero = no_pages
pages_sum f no_mmu start size b h (suc n) =
    plus (pages_sum f no_mmu start size b h n)
    (segment_pages f no_mmu start size (is_linked no_mmu b h) (program_at b h n))

-- whether Linux loads each of the first n program headers
abbrev pub all_load : ℕ → List ℕ → Header → ℕ → Bool
all_load size b h zero = true
all_load size b h (suc n) =
    if is_refused (loaded size (program_at b h n)) then false else all_load size b h n

abbrev pub pages_by : Flash → Bool → ℕ → ℕ → List ℕ → Result Header ElfError
    → Result ProgramPages NoProgram
pages_by f no_mmu start size b (Ok h) =
    if all_load size b h h.count then Ok (pages_sum f no_mmu start size b h h.count)
    else Err Unloadable
pages_by f no_mmu start size b (Err elf.NotElf) = Err NotElf
pages_by f no_mmu start size b (Err elf.Table) = Err BadTable

-- The pages of the program whose file has `size` bytes from `start` on. Otherwise the file is no
-- program, or Linux does not load it.
unfoldable pub pages_of : Flash → Bool → ℕ → ℕ → Result ProgramPages NoProgram
pages_of f no_mmu start size =
    pages_by f no_mmu start size (part_of f.bytes start size)
    (header_of (part_of f.bytes start size))
