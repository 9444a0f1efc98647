-- `romfs_area`: where Linux without an MMU maps pages of a file of romfs. `AreMappedInRomfs`: it
-- maps all pages of each file to the flash itself. (Linux 6.1 fs/romfs/mmap-nommu.c,
-- `romfs_get_unmapped_area`. Pages are of 4,096 bytes.)
use Rattle.std.specs.Prelude.{◌≡◌, ℕ, ◌+◌, ◌-◌, ◌*◌, ◌/◌, ◌%◌, ◌<◌, ◌≤◌, true, List, ◌++◌, length}
use Rattle.std.specs.Prelude.{if◌then◌else◌, nat_lt, slice_index, Option, None, Some}
use Rattle.rom_tree.specs.Tree.{Node, IsIn, ino_of, is_regular, nodes, places_of}
use Rattle.romfs_format.specs.Record.{name_of, size_of}
use Rattle.linux_misreads.specs.Readers.{romfs_data}
use Rattle.program_pages.specs.Physmem.{Flash}
use Rattle.program_pages.specs.declared.mapping.Mapping.{Mapping}

-- the pages of a file of n bytes
abbrev pub page_count : ℕ → ℕ
page_count n = (n + 4095) / 4096

-- the address of the first page of a mapping of a file of a size, whose data begin at `start`, if
-- its pages are among those of the file and of the flash
abbrev pub area_of : ℕ → ℕ → Flash → Mapping → Option ℕ
area_of size start f m =
    if nat_lt m.first (page_count size) then
    (if nat_lt (page_count size - m.first) m.count then None
    else (if nat_lt (length f.bytes) (4096 * m.count) then None
    else (if nat_lt m.first (length f.bytes / 4096) then
    (if nat_lt (start + 4096 * m.first) (length f.bytes) then
    Some (f.address + (start + 4096 * m.first)) else None) else None))) else None

-- the same for the file whose record is at p
unfoldable pub romfs_area : Flash → ℕ → Mapping → Option ℕ
romfs_area f p m = area_of (size_of f.bytes p) (romfs_data f.bytes p) f m

-- the image is at the front of the flash, which has whole pages
pub record FillsPages (f : Flash) (bytes : List ℕ) : Type 0 where
  pub rest : List ℕ
  pub front : f.bytes ≡ bytes ++ rest
  pub pages : length f.bytes % 4096 ≡ 0

-- each mapping within the file x is in the flash, from the place of its first byte on
abbrev pub IsMappedInRomfs : Flash → Node → Type 0
IsMappedInRomfs f x =
    (m : Mapping) → m.first < page_count (length (places_of x))
    → m.first + m.count ≤ page_count (length (places_of x))
    → romfs_area f (ino_of x) m ≡ Some (f.address + slice_index (places_of x) (4096 * m.first))

-- each regular file is such a file, whatever its ALIGN, if the name in its record has at most 128
-- bytes: Linux reads no more of it
abbrev pub AreMappedInRomfs : Flash → Node → Type 0
AreMappedInRomfs f t =
    (x : Node) → IsIn x (nodes t) → is_regular x ≡ true
    → length (name_of f.bytes (ino_of x)) ≤ 128 → IsMappedInRomfs f x
