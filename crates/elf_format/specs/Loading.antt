-- `loaded`: what Linux maps for a program header of a file of a size. `IsInFile`: its pages are
-- some of the file. `zero_pages`: the pages of zeros behind them. (Linux 6.1 fs/binfmt_elf.c:
-- `load_elf_binary`, `elf_map`, and mm/util.c: `vm_mmap`, which refuses an offset within a page.
-- Pages are of 4,096 bytes. A segment beyond the end of the file is mapped, but an access to it is
-- fatal: here it is refused.)
use Rattle.std.specs.Prelude.{◌≤◌, ℕ, ◌+◌, ◌-◌, ◌/◌, ◌%◌, Bool, false, true, if◌then◌else◌, ◌==◌}
use Rattle.std.specs.Prelude.{nat_lt}
use Rattle.elf_format.specs.declared.loading.Loading.{Loading}
use Rattle.elf_format.specs.declared.loading.Loading.TheVariants.{Nothing, Refused, Pages}
use Rattle.elf_format.specs.declared.program.Program.{Program}

-- PT_LOAD with bytes from the file
abbrev pub is_loaded : Program → Bool
is_loaded p = if p.kind == 1 then nat_lt 0 p.file_size else false

-- the bytes are in the file and have room in memory, and offset and address are the same within
-- their pages
abbrev pub is_loadable : ℕ → Program → Bool
is_loadable file p =
    if p.offset % 4096 == p.address % 4096 then
    (if nat_lt p.memory_size p.file_size then false
    else (if nat_lt file (p.offset + p.file_size) then false else true))
    else false

-- PF_W
abbrev pub is_writable : Program → Bool
is_writable p = p.flags / 2 % 2 == 1

-- the pages from the one with the first byte up to the one with the last
abbrev pub loaded : ℕ → Program → Loading
loaded file p =
    if is_loaded p then
    (if is_loadable file p then Pages (p.offset / 4096)
    ((p.address % 4096 + p.file_size + 4095) / 4096) (is_writable p)
    else Refused) else Nothing

-- each page is one of the file
abbrev pub IsInFile : ℕ → Loading → Type 0
IsInFile file Nothing = Unit {0}
IsInFile file Refused = Unit {0}
IsInFile file (Pages first count writable) = first + count ≤ (file + 4095) / 4096

-- the pages that n bytes from an address on take, if there are any
abbrev pub pages_to : ℕ → ℕ → ℕ
pages_to address n = (address % 4096 + n + 4095) / 4096

-- the pages of a segment behind those with bytes from the file: they are zeros
abbrev pub zero_pages : Program → ℕ
zero_pages p =
    if p.kind == 1 then pages_to p.address p.memory_size - pages_to p.address p.file_size else 0
