-- `has_fixed`: a program or a library has a segment of the file that cannot be written, so that
-- Linux can map it from flash. (This project's own.)
use Rattle.std.specs.Prelude.{ℕ, zero, suc, ◌==◌, ◌&&◌, ◌||◌, not, Bool, true, false}
use Rattle.std.specs.Prelude.{if◌then◌else◌, List, Result, Ok, Err}
use Rattle.elf_format.specs.Header.{header_of, program_at}
use Rattle.elf_format.specs.Loading.{is_loaded, is_writable}
use Rattle.elf_format.specs.declared.error.ElfError.{ElfError}
use Rattle.elf_format.specs.declared.header.Header.{Header}
use Rattle.elf_format.specs.declared.program.Program.{Program}

abbrev pub is_fixed : Program → Bool
is_fixed p = is_loaded p && not (is_writable p)

-- whether one of the first n program headers is such a segment
abbrev pub fixed_among : List ℕ → Header → ℕ → Bool
fixed_among b h zero = false
fixed_among b h (suc n) = if is_fixed (program_at b h n) then true else fixed_among b h n

-- ET_EXEC or ET_DYN
abbrev pub is_executed : ℕ → Bool
is_executed kind = (kind == 2) || (kind == 3)

abbrev pub fixed_by : List ℕ → Result Header ElfError → Bool
fixed_by b (Ok h) = if is_executed h.kind then fixed_among b h h.count else false
fixed_by b (Err e) = false

-- whether the file b, or a front of it with all program headers, has such a segment
unfoldable pub has_fixed : List ℕ → Bool
has_fixed b = fixed_by b (header_of b)
