-- `pages_in_place`: the number of mapped pages of a file whose bytes are in one run.
-- `IsInPlace`: each page of a file is mapped at the place of its first byte. (This project's own.)
use Rattle.std.specs.Prelude.{◌≡◌, ◌≤◌, ◌<◌, ℕ, ◌+◌, ◌-◌, ◌*◌, ◌%◌, min, nat_lt, false}
use Rattle.std.specs.Prelude.{if◌then◌else◌, ◌==◌, length, slice_index}
use Rattle.rom_tree.specs.Tree.{Node, ino_of, places_of}
use Rattle.cramfs_format.specs.declared.order.Order.{Order}
use Rattle.cramfs_format.specs.Inode.{block_count}
use Rattle.program_pages.specs.Physmem.{Flash, IsMappedAt, shares_page, without_shared}
use Rattle.program_pages.specs.declared.mapping.Mapping.{Mapping}

-- all pages of the mapping that the file has, if the run begins with a page of the flash; but the
-- file's last one only if nothing else is in it
abbrev pub pages_in_place : Flash → ℕ → ℕ → Mapping → ℕ
pages_in_place f start size m =
    if m.writable then 0
    else (if nat_lt m.first (block_count size) then (if (f.address + start) % 4096 == 0 then
    without_shared (shares_page f.bytes (start + size) size) size m.first
    (min m.count (block_count size - m.first)) else 0) else 0)

-- Page k of the file is one of the mapping, which cannot be written. If the file ends within the
-- page, only zeros are behind it.
pub record IsOwnPage (f : Flash) (x : Node) (start : ℕ) (m : Mapping) (k : ℕ) : Type 0 where
  pub fixed : m.writable ≡ false
  pub begins : m.first ≤ k
  pub within : k < m.first + m.count
  pub filled : k < block_count (length (places_of x))
  pub own : length (places_of x) < 4096 * (k + 1)
      → shares_page f.bytes (start + length (places_of x)) (length (places_of x)) ≡ false

-- Linux maps each such page of the file x, whose bytes begin at `start`, at the address of the
-- flash plus the place of the page's first byte.
abbrev pub IsInPlace : Order → Flash → Node → ℕ → Type 0
IsInPlace o f x start =
    (m : Mapping) (k : ℕ) → IsOwnPage f x start m k
    → IsMappedAt o f (ino_of x) m k (f.address + slice_index (places_of x) (4096 * k))
