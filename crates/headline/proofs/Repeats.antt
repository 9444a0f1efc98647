-- A verdict depends on where in a page of the flash the file begins, and not on which page it is.
use Rattle.std.proofs.Common.{◌≡◌, ℕ, zero, suc, ◌+◌, ◌-◌, ◌%◌, ◌==◌, Bool, false, List, length, min, nat_lt}
use Rattle.std.proofs.Common.{Result, Ok, Err, Some, None, refl, ap, ap₂, ◌∙◌, arith}
use Rattle.std.specs.Prelude.{if◌then◌else◌}
use Rattle.rom_fields.specs.Words.{part_of}
use Rattle.cramfs_format.specs.Inode.{block_count}
use Rattle.elf_format.specs.declared.error.ElfError.{ElfError}
use Rattle.elf_format.specs.declared.error.ElfError.TheVariants as elf
use Rattle.elf_format.specs.declared.header.Header.{Header}
use Rattle.elf_format.specs.declared.loading.Loading.{Loading}
use Rattle.elf_format.specs.declared.loading.Loading.TheVariants.{Nothing, Pages, Refused}
use Rattle.elf_format.specs.declared.program.Program.{Program}
use Rattle.elf_format.specs.Dynamic.{file_moves_text}
use Rattle.elf_format.specs.Header.{header_of, kind_in, program_at}
use Rattle.elf_format.specs.Loading.{loaded, zero_pages}
use Rattle.program_pages.specs.Counted.{all_load, fixed_pages, flash_at, is_linked, is_zeroed, kept, loaded_pages}
use Rattle.program_pages.specs.Counted.{pages_by, pages_of, pages_sum, placed_of, plus, segment_pages, used_by}
use Rattle.program_pages.specs.InPlace.{pages_in_place}
use Rattle.program_pages.specs.Physmem.{shares_page, without_shared}
use Rattle.program_pages.specs.declared.counting.NoProgram.{NoProgram}
use Rattle.program_pages.specs.declared.counting.NoProgram.TheVariants as no
use Rattle.program_pages.specs.declared.counting.ProgramPages.{ProgramPages}
use Rattle.program_pages.specs.declared.mapping.Mapping.{Mapping}
use Rattle.program_report.specs.declared.finding.Reason.TheVariants.{Romfs, Unaligned}
use Rattle.program_report.specs.declared.finding.Verdict.{Verdict}
use Rattle.program_report.specs.declared.finding.Verdict.TheVariants.{InPlace, Not}
use Rattle.program_report.specs.declared.question.Question.{Question}
use Rattle.program_report.specs.Found.{is_program, judged, unless_moved, verdict_at, written}

-- both addresses are, or are not, at the front of a page
front_alike : (m n : ℕ) → m % 4096 ≡ n % 4096 → ((m + 0) % 4096 == 0) ≡ ((n + 0) % 4096 == 0)
front_alike m n e = let z : (m + 0) % 4096 ≡ (n + 0) % 4096 = omega (arith, e) in ap (λ (v : ℕ). v == 0) z

-- the file b at two addresses
module _ (m n : ℕ) (b : List ℕ) (same : ((m + 0) % 4096 == 0) ≡ ((n + 0) % 4096 == 0)) where
  in_place : (size : ℕ) (k : Mapping) → pages_in_place (flash_at b m) 0 size k ≡ pages_in_place (flash_at b n) 0 size k
  in_place size k =
      ap (λ (t : Bool). if k.writable then 0
      else (if nat_lt k.first (block_count size) then (if t then
      without_shared (shares_page b (0 + size) size) size k.first (min k.count (block_count size - k.first)) else 0)
      else 0)) same

  of_segment : (size : ℕ) (z : Bool) (l : Loading)
      → placed_of (flash_at b m) false 0 size z l ≡ placed_of (flash_at b n) false 0 size z l
  of_segment size z Nothing = refl
  of_segment size z Refused = refl
  of_segment size z (Pages first count writable) =
      ap (kept z count) (in_place size (record { first = first; count = count; writable = writable }))

  segment : (size : ℕ) (linked : Bool) (p : Program)
      → segment_pages (flash_at b m) false 0 size linked p ≡ segment_pages (flash_at b n) false 0 size linked p
  segment size linked p =
      let l : Loading = loaded size p in
      let z : Bool = is_zeroed linked p in
      ap (λ (k : ℕ). record {
        in_place = k;
        copied = loaded_pages l - k;
        fixed = fixed_pages z l;
        zero = zero_pages p;
        used = used_by p l;
      }) (of_segment size z l)

  sum : (size : ℕ) (c : List ℕ) (h : Header) (i : ℕ)
      → pages_sum (flash_at b m) false 0 size c h i ≡ pages_sum (flash_at b n) false 0 size c h i
  sum size c h zero = refl
  sum size c h (suc i) = ap₂ plus (sum size c h i) (segment size (is_linked false c h) (program_at c h i))

  by_header : (size : ℕ) (c : List ℕ) (r : Result Header ElfError)
      → pages_by (flash_at b m) false 0 size c r ≡ pages_by (flash_at b n) false 0 size c r
  by_header size c (Ok h) =
      ap (λ (p : ProgramPages). if all_load size c h h.count then Ok p else Err no.Unloadable) (sum size c h h.count)
  by_header size c (Err elf.NotElf) = refl
  by_header size c (Err elf.Table) = refl

  all_pages : (size : ℕ) → pages_of (flash_at b m) false 0 size ≡ pages_of (flash_at b n) false 0 size
  unfolding pages_of
  all_pages size = by_header size (part_of b 0 size) (header_of (part_of b 0 size))

  asked : ℕ → Question
  asked address = record { base = address; no_mmu = false; advice = false }

  judged_same : (romfs : Bool) (r : Result ProgramPages NoProgram)
      → judged romfs (asked m) 0 r ≡ judged romfs (asked n) 0 r
  unfolding asked
  judged_same romfs (Ok p) =
      ap (λ (t : Bool). if p.fixed == 0 then written p
      else (if romfs then Not Romfs (p.in_place + p.copied)
      else (if t then InPlace p else Not Unaligned (p.in_place + p.copied)))) same
  judged_same romfs (Err no.Unloadable) = refl
  judged_same romfs (Err no.NotElf) = refl
  judged_same romfs (Err no.BadTable) = refl

  both : (romfs : Bool) → verdict_at romfs m b ≡ verdict_at romfs n b
  unfolding verdict_at asked
  both romfs =
      ap (λ (v : Verdict). if is_program (kind_in b) then Some (unless_moved (file_moves_text b) v) else None)
      (judged_same romfs (pages_of (flash_at b m) false 0 (length b))
      ∙ ap (judged romfs (asked n) 0) (all_pages (length b)))

pub verdict_repeats : (romfs : Bool) (m n : ℕ) (b : List ℕ) → m % 4096 ≡ n % 4096
    → verdict_at romfs m b ≡ verdict_at romfs n b
verdict_repeats romfs m n b e = both m n b (front_alike m n e) romfs
