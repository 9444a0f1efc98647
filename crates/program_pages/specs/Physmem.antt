-- `mapped_pages`: how many pages of a mapping of a file Linux maps to the flash itself. The others
-- are read into memory when they are used. `is_whole`: without an MMU Linux maps all of them.
-- (Linux 6.1 fs/cramfs/inode.c with CONFIG_CRAMFS_MTD: `get_cramfs_inode`, `cramfs_physmem_mmap`,
-- `cramfs_get_block_range`, `cramfs_last_page_is_shared` and `cramfs_physmem_get_unmapped_area`.
-- Pages are of 4,096 bytes. The machine has the image's byte order.)
use Rattle.std.specs.Prelude.{◌≡◌, ◌≤◌, ◌<◌, ℕ, zero, suc, ◌+◌, ◌-◌, ◌*◌, ◌/◌, ◌%◌, ◌^◌, min}
use Rattle.std.specs.Prelude.{nat_lt, Bool, true, false, if◌then◌else◌, ◌==◌, List, [], ◌∷◌, drop}
use Rattle.cramfs_format.specs.declared.order.Order.{Order}
use Rattle.cramfs_format.specs.Order.{word}
use Rattle.cramfs_format.specs.Inode.{type_of, size_of, block_count, block_start, is_direct}
use Rattle.cramfs_format.specs.Inode.{has_kinds, pointer_of, pointer_place}
use Rattle.program_pages.specs.declared.mapping.Mapping.{Mapping}

-- The flash from the image's first byte on, and the physical address of that byte. It is 0 if the
-- driver of the flash has no address for it.
pub record Flash : Type 0 where
  pub bytes : List ℕ
  pub address : ℕ

-- the file whose inode is at p can be mapped: a regular file, in an image whose pointers have the
-- kinds of their blocks, on flash with an address
abbrev pub is_mappable : Order → Flash → ℕ → Bool
is_mappable o f p =
    if type_of o f.bytes p == 8 then
    (if has_kinds (word o f.bytes 8) then (if f.address == 0 then false else true) else false)
    else false

-- the pointer is the one that is expected i pages behind a start, which is in units of 4 bytes:
-- bits 31 and 30 and the start of the block, in a word of 32 bits
abbrev pub is_expected : ℕ → ℕ → ℕ → Bool
is_expected start i pointer =
    if is_direct pointer then pointer % 2 ^ 30 == (start + 1024 * i) % 2 ^ 30 else false

-- how many of n pointers, from the i-th after q on, are the expected ones
abbrev pub range_from : Order → List ℕ → ℕ → ℕ → ℕ → ℕ → ℕ
range_from o b q start i zero = 0
range_from o b q start i (suc n) =
    if is_expected start i (word o b (q + 4 * i)) then suc (range_from o b q start (suc i) n) else 0

-- whether n bytes are there, and all of them zeros
abbrev pub begins_with_zeros : ℕ → List ℕ → Bool
begins_with_zeros zero xs = true
begins_with_zeros (suc n) [] = false
begins_with_zeros (suc n) (x ∷ xs) = if x == 0 then begins_with_zeros n xs else false

-- whether the last page of a file of a size, which ends at `end`, has other bytes than zeros behind
-- the file
abbrev pub shares_page : List ℕ → ℕ → ℕ → Bool
shares_page b end size =
    if size % 4096 == 0 then false
    else (if begins_with_zeros (4096 - size % 4096) (drop end b) then false else true)

unfoldable pub last_is_shared : Order → List ℕ → ℕ → Bool
last_is_shared o b p =
    shares_page b
    (block_start (pointer_of o b p (size_of o b p / 4096)) + size_of o b p % 4096) (size_of o b p)

-- these pages from `first` on, without the file's last page if that is shared
abbrev pub without_shared : Bool → ℕ → ℕ → ℕ → ℕ
without_shared shared size first pages =
    if first + pages == block_count size then (if shared then pages - 1 else pages) else pages

-- the mapped ones of n pages from `first` on, whose first block begins at `start`, in units of 4
-- bytes
abbrev pub mapped_at : Order → Flash → ℕ → ℕ → ℕ → ℕ → ℕ
mapped_at o f p first n start =
    if start == 0 then 0
    else (if (f.address + start * 4) % 4096 == 0 then
    without_shared (last_is_shared o f.bytes p) (size_of o f.bytes p) first
    (range_from o f.bytes (pointer_place o f.bytes p first) start 0 n) else 0)

-- The number of mapped pages, which are the first of the mapping. A mapping that can be written has
-- none, and one that goes past the file has those of the file.
unfoldable pub mapped_pages : Order → Flash → ℕ → Mapping → ℕ
mapped_pages o f p m =
    if m.writable then 0
    else (if nat_lt m.first (block_count (size_of o f.bytes p)) then (if is_mappable o f p then
    mapped_at o f p m.first (min m.count (block_count (size_of o f.bytes p) - m.first))
    (pointer_of o f.bytes p m.first % 2 ^ 30) else 0) else 0)

-- Page k of the file is mapped, at this address.
pub record IsMappedAt (o : Order) (f : Flash) (p : ℕ) (m : Mapping) (k address : ℕ) : Type 0 where
  pub begins : m.first ≤ k
  pub within : k < m.first + mapped_pages o f p m
  pub here : address
      ≡ f.address + block_start (pointer_of o f.bytes p m.first) + 4096 * (k - m.first)

-- n pages from `first` on are some of the file, and are in one run
abbrev pub is_run : Order → Flash → ℕ → ℕ → ℕ → Bool
is_run o f p first n =
    if nat_lt first (block_count (size_of o f.bytes p)) then
    (if nat_lt (block_count (size_of o f.bytes p) - first) n then false
    else (if pointer_of o f.bytes p first % 2 ^ 30 == 0 then false
    else range_from o f.bytes (pointer_place o f.bytes p first)
    (pointer_of o f.bytes p first % 2 ^ 30) 0 n == n)) else false

-- Without an MMU all pages of the mapping are mapped, or none. They need not begin with a page of
-- the flash.
unfoldable pub is_whole : Order → Flash → ℕ → Mapping → Bool
is_whole o f p m =
    if m.writable then false
    else (if is_mappable o f p then is_run o f p m.first m.count else false)
