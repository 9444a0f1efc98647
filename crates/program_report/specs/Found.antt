-- `found_in`: whether a node is a program or a library, and whether Linux executes it in place.
-- (This project's own. The pages are those of `program_pages.specs.Counted`. Linux 6.1: with an MMU
-- fs/cramfs/inode.c, `cramfs_physmem_mmap`, and fs/romfs/super.c, which has no mmap of its own;
-- without one `cramfs_physmem_get_unmapped_area` and fs/romfs/mmap-nommu.c.)
use Rattle.std.specs.Prelude.{ℕ, ◌+◌, ◌/◌, ◌%◌, ◌^◌, ◌<◌, ◌==◌, ◌&&◌, ◌||◌, Bool, true, false}
use Rattle.std.specs.Prelude.{if◌then◌else◌, List, [], ◌∷◌, length, Option, Some, None}
use Rattle.std.specs.Prelude.{Result, Ok, Err}
use Rattle.rom_fields.specs.Words.{part_of}
use Rattle.rom_tree.specs.Runs.{row_len}
use Rattle.rom_tree.specs.Tree.{Node, is_regular, places_of}
use Rattle.image_check.specs.declared.any.AnyImage.{AnyImage}
use Rattle.image_check.specs.declared.any.AnyImage.TheVariants as any
use Rattle.image_check.specs.Any.{any_view}
use Rattle.elf_format.specs.Dynamic.{file_moves_text}
use Rattle.elf_format.specs.Header.{kind_in}
use Rattle.program_pages.specs.Counted.{flash_at, pages_of}
use Rattle.program_pages.specs.Flat.{flat_of, is_flat}
use Rattle.program_pages.specs.declared.counting.ProgramPages.{ProgramPages}
use Rattle.program_pages.specs.declared.counting.NoProgram.{NoProgram}
use Rattle.program_pages.specs.declared.counting.NoProgram.TheVariants as no
use Rattle.program_report.specs.declared.question.Question.{Question}
use Rattle.program_report.specs.declared.finding.Found.{Found}
use Rattle.program_report.specs.declared.finding.Reason.TheVariants.{Unaligned, Scattered}
use Rattle.program_report.specs.declared.finding.Reason.TheVariants.{Unloadable, Table, Romfs}
use Rattle.program_report.specs.declared.finding.Reason.TheVariants.{TextRelocations, Writable}
use Rattle.program_report.specs.declared.finding.Verdict.{Verdict}
use Rattle.program_report.specs.declared.finding.Verdict.TheVariants.{InPlace, Not}

-- a type of ELF files: ET_EXEC or ET_DYN
abbrev pub is_program : Option ℕ → Bool
is_program None = false
is_program (Some kind) = (kind == 2) || (kind == 3)

-- a file is an ELF program or library; or, without an MMU, a program in the flat format
abbrev pub is_found : Question → List ℕ → Bool
is_found q b = is_program (kind_in b) || (q.no_mmu && is_flat b)

abbrev pub is_romfs : AnyImage → Bool
is_romfs (any.Romfs s) = true
is_romfs (any.Cramfs s) = false

-- the verdict on a program of which each page is written: none of its pages can be in place. One of
-- which no page is loaded is no such program.
abbrev pub written : ProgramPages → Verdict
written p = if p.in_place + p.copied == 0 then InPlace p else Not Writable (p.in_place + p.copied)

-- the verdict on a program with these pages, from `start` on. Without an MMU all its pages that
-- cannot be written are in place. With an MMU Linux maps nothing of romfs, and of cramfs what
-- begins with a page of the flash.
abbrev pub placed : Bool → Question → ℕ → ProgramPages → Verdict
placed romfs q start p =
    if p.fixed == 0 then written p else (if q.no_mmu then InPlace p
    else (if romfs then Not Romfs (p.in_place + p.copied)
    else (if (q.base + start) % 4096 == 0 then InPlace p
    else Not Unaligned (p.in_place + p.copied))))

-- the pages of a program that is in place are few
abbrev pub IsSmall : Verdict → Type 0
IsSmall (InPlace p) = p.in_place + p.copied < 2 ^ 64
IsSmall (Not reason pages) = Unit {0}

-- the same, or Linux does not execute the program
abbrev pub judged : Bool → Question → ℕ → Result ProgramPages NoProgram → Verdict
judged romfs q start (Ok p) = placed romfs q start p
judged romfs q start (Err no.Unloadable) = Not Unloadable 0
judged romfs q start (Err no.NotElf) = Not Table 0
judged romfs q start (Err no.BadTable) = Not Table 0

abbrev pub page_count : ℕ → ℕ
page_count size = (size + 4095) / 4096

abbrev pub found : ℕ → ℕ → Verdict → Found
found start size v = record { start = start; size = size; verdict = v }

-- The verdict, if the dynamic linker writes into the text or does not. Of the text it copies the
-- pages that it writes, which are not counted here: all pages are the most that are copied.
abbrev pub unless_moved : Bool → Verdict → Verdict
unless_moved moved (Not reason pages) = Not reason pages
unless_moved moved (InPlace p) =
    if moved then (if p.fixed == 0 then InPlace p else Not TextRelocations (p.in_place + p.copied))
    else InPlace p

-- the verdict on a program whose file has the bytes b and begins at this address; of what follows
-- the file nothing is known
unfoldable pub verdict_at : Bool → ℕ → List ℕ → Option Verdict
verdict_at romfs address b =
    if is_program (kind_in b) then Some (unless_moved (file_moves_text b)
    (judged romfs (record { base = address; no_mmu = false; advice = false }) 0
    (pages_of (flash_at b address) false 0 (length b)))) else None

-- the verdict on a program in the flat format, by its pages
abbrev pub flat_verdict : Option ProgramPages → Verdict
flat_verdict None = Not Unloadable 0
flat_verdict (Some p) = InPlace p

-- the verdict on a program of `size` bytes in one run
abbrev pub run_verdict : AnyImage → Question → ℕ → ℕ → Verdict
run_verdict a q start size =
    if is_flat (part_of (any_view a).bytes start size)
    then flat_verdict (flat_of (part_of (any_view a).bytes start size))
    else unless_moved (file_moves_text (part_of (any_view a).bytes start size))
    (judged (is_romfs a) q start
    (pages_of (flash_at (any_view a).bytes q.base) q.no_mmu start size))

-- the verdict on a program of `size` bytes, of which `len` are in one run from `start` on. A file
-- in several runs is taken for one that is copied as a whole.
abbrev pub verdict_in : AnyImage → Question → ℕ → ℕ → ℕ → Verdict
verdict_in a q start len size =
    if len == size then run_verdict a q start size else Not Scattered (page_count size)

-- what is found of such a file, whose type is read in that run
unfoldable pub found_at : AnyImage → Question → ℕ → ℕ → ℕ → Option Found
found_at a q start len size =
    if is_found q (part_of (any_view a).bytes start len)
    then Some (found start size (verdict_in a q start len size)) else None

abbrev pub found_on : AnyImage → Question → List ℕ → Option Found
found_on a q [] = None
found_on a q (p ∷ ps) = found_at a q p (row_len p (p ∷ ps)) (length (p ∷ ps))

-- what is found of a node; only a regular file is a program
abbrev pub found_in : AnyImage → Question → Node → Option Found
found_in a q x = if is_regular x then found_on a q (places_of x) else None
