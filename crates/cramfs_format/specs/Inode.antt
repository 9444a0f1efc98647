-- A cramfs inode with its name: the record at p among the accessible bytes b, in the byte order o.
-- `IsSound`, `HasEntryFault`: an entry of a list is valid, or has a fault. `HasBody`,
-- `HasBodyFault`: the same for the body that its inode describes. (Linux
-- include/uapi/linux/cramfs_fs.h and Documentation/filesystems/cramfs.rst.)
--
--   p       mode 16 bits, uid 16
--   p + 4   size 24 bits, gid 8
--   p + 8   namelen 6 bits, offset 26, both in units of 4 bytes
--   p + 12  name, padded with zeros; the root, which the superblock holds, has none
-- At the offset is a directory's list, of `size` bytes, or the block pointers of a file or a link.
use Rattle.std.specs.Prelude.{◌≡◌, ℕ, ◌+◌, ◌-◌, ◌*◌, ◌/◌, ◌%◌, ◌^◌, ◌<◌, ◌≤◌, ◌⊎◌, min, Bool, true}
use Rattle.std.specs.Prelude.{false, if◌then◌else◌, ◌==◌, ◌||◌, ◌&&◌, List, [], ◌∷◌, length, take}
use Rattle.std.specs.Prelude.{drop}
use Rattle.std.specs.List.{Contains}
use Rattle.rom_fields.specs.declared.fault.Fault.{Fault}
use Rattle.cramfs_format.specs.Order.{word, first_field, field_after}
use Rattle.cramfs_format.specs.declared.order.Order.{Order}
use Rattle.rom_fields.specs.FaultNumbers.{BOUNDS, BAD_NAME, KIND, LINK_SIZE, BLOCK_KIND, LIST_END}

-- file type and permissions
unfoldable pub mode_of : Order → List ℕ → ℕ → ℕ
mode_of o b p = first_field o 16 (word o b p)

unfoldable pub uid_of : Order → List ℕ → ℕ → ℕ
uid_of o b p = field_after o 16 (word o b p)

-- the size in bytes, or the numbers of a device
unfoldable pub size_of : Order → List ℕ → ℕ → ℕ
size_of o b p = first_field o 24 (word o b (p + 4))

unfoldable pub gid_of : Order → List ℕ → ℕ → ℕ
gid_of o b p = field_after o 24 (word o b (p + 4))

-- the length of its padded name, in bytes
unfoldable pub name_room : Order → List ℕ → ℕ → ℕ
name_room o b p = first_field o 6 (word o b (p + 8)) * 4

-- the offset of its list or its block pointers
unfoldable pub offset_of : Order → List ℕ → ℕ → ℕ
offset_of o b p = field_after o 6 (word o b (p + 8)) * 4

-- the upper four of the sixteen bits of the mode: 1 fifo, 2 character device, 4 directory, 6 block
-- device, 8 regular file, 10 symbolic link, 12 socket
unfoldable pub type_of : Order → List ℕ → ℕ → ℕ
type_of o b p = mode_of o b p / 4096

abbrev pub is_kind : ℕ → Bool
is_kind t =
    (t == 4) || ((t == 8) || ((t == 10) || ((t == 6) || ((t == 2) || ((t == 12) || (t == 1))))))

-- regular files and symbolic links have data
abbrev pub has_data : ℕ → Bool
has_data t = (t == 8) || (t == 10)

-- x and the bytes behind it, which have no zeros at their end; without zeros at the end
abbrev pub before_rest : ℕ → List ℕ → List ℕ
before_rest x [] = if x == 0 then [] else x ∷ []
before_rest x (y ∷ ys) = x ∷ y ∷ ys

-- the bytes without the zeros at their end
abbrev pub without_zeros : List ℕ → List ℕ
without_zeros [] = []
without_zeros (x ∷ xs) = before_rest x (without_zeros xs)

unfoldable pub name_of : Order → List ℕ → ℕ → List ℕ
name_of o b p = without_zeros (take (name_room o b p) (drop (p + 12) b))

-- the offset at which the record ends, and the next of its list begins
unfoldable pub end_of : Order → List ℕ → ℕ → ℕ
end_of o b p = p + 12 + name_room o b p

-- the offset at which the list of the record at p begins, if it has one
unfoldable pub list_start : Order → List ℕ → ℕ → ℕ
list_start o b p = offset_of o b p

-- the offset at which the list of a directory ends; other records have no list
unfoldable pub list_end : Order → List ℕ → ℕ → ℕ
list_end o b p = if type_of o b p == 4 then offset_of o b p + size_of o b p else 0

-- one pointer for each started block of 4096 bytes
abbrev pub block_count : ℕ → ℕ
block_count size = (size + 4095) / 4096

-- the offset of the i-th block pointer of the record at p
unfoldable pub pointer_place : Order → List ℕ → ℕ → ℕ → ℕ
pointer_place o b p i = offset_of o b p + 4 * i

-- a pointer has the start of its block in units of 4 bytes; its two upper bits are the kind of the
-- block
abbrev pub block_start : ℕ → ℕ
block_start pointer = pointer % 2 ^ 30 * 4

-- the length of the i-th block of a file of `size` bytes
abbrev pub block_len : ℕ → ℕ → ℕ
block_len size i = min 4096 (size - 4096 * i)

-- the flag at 8 for pointers that have bits for the kind of their blocks
abbrev pub has_kinds : ℕ → Bool
has_kinds flags = flags / 2 ^ 11 % 2 == 1

-- bit 31 is set if a block is not compressed, and bit 30 if the pointer has the block's start
abbrev pub is_direct : ℕ → Bool
is_direct pointer = (pointer / 2 ^ 31 % 2 == 1) && (pointer / 2 ^ 30 % 2 == 1)

-- a block that is not compressed and is read at the offset in its pointer
abbrev pub IsPlain : Order → List ℕ → ℕ → Type 0
IsPlain o b pointer = (has_kinds (word o b 8) ≡ true) × (is_direct pointer ≡ true)

-- the bytes are behind the superblock and among the accessible ones, if there are any
abbrev pub Lies : List ℕ → ℕ → ℕ → Type 0
Lies b start len = 0 < len → (76 ≤ start) × (start + len ≤ length b)

-- the directory's list is there
abbrev pub ListLies : Order → List ℕ → ℕ → Type 0
ListLies o b p = type_of o b p ≡ 4 → Lies b (offset_of o b p) (size_of o b p)

-- the block pointers are there
abbrev pub TableLies : Order → List ℕ → ℕ → Type 0
TableLies o b p =
    has_data (type_of o b p) ≡ true → Lies b (offset_of o b p) (4 * block_count (size_of o b p))

-- the i-th pointer of the record at p
abbrev pub pointer_of : Order → List ℕ → ℕ → ℕ → ℕ
pointer_of o b p i = word o b (pointer_place o b p i)

-- the i-th block of the record at p is there
abbrev pub BlockLies : Order → List ℕ → ℕ → ℕ → Type 0
BlockLies o b p i = Lies b (block_start (pointer_of o b p i)) (block_len (size_of o b p) i)

-- the text of a link has 1 to 4095 bytes
abbrev pub HasLinkSize : Order → List ℕ → ℕ → Type 0
HasLinkSize o b p = type_of o b p ≡ 10 → (1 ≤ size_of o b p) × (size_of o b p ≤ 4095)

-- the body that the inode at p describes is well formed
pub record HasBody (o : Order) (b : List ℕ) (p : ℕ) : Type 0 where
  pub kind : is_kind (type_of o b p) ≡ true
  pub link_size : HasLinkSize o b p
  pub list : ListLies o b p
  pub table : TableLies o b p
  pub plain : has_data (type_of o b p) ≡ true → (i : ℕ) → i < block_count (size_of o b p)
      → IsPlain o b (pointer_of o b p i)
  pub blocks : has_data (type_of o b p) ≡ true → (i : ℕ) → i < block_count (size_of o b p)
      → BlockLies o b p i

-- the inode at p with its name ends at e or before, where their list ends
abbrev pub Fits : Order → List ℕ → ℕ → ℕ → Type 0
Fits o b e p = (p + 12 ≤ e) × (end_of o b p ≤ e)

-- not empty, without a zero or a slash
pub record IsName (name : List ℕ) : Type 0 where
  pub some : 0 < length name
  pub no_zero : Contains name 0 → ⊥
  pub no_slash : Contains name 47 → ⊥

-- the entry at p of a list that ends at e is valid
pub record IsSound (o : Order) (b : List ℕ) (e p : ℕ) : Type 0 where
  pub fits : Fits o b e p
  pub name : IsName (name_of o b p)
  pub body : HasBody o b p

-- the faults of the body that the inode at p describes: 14 Kind, 15 LinkSize, 11 Bounds, 16
-- BlockKind
pub data HasBodyFault (o : Order) (b : List ℕ) (p : ℕ) : Fault → Type 0 where
  other_kind : {f : Fault} → f ≡ record { number = KIND; at = p } → is_kind (type_of o b p) ≡ false
      → HasBodyFault o b p f
  link_size : {f : Fault} → f ≡ record { number = LINK_SIZE; at = p } → type_of o b p ≡ 10
      → (size_of o b p ≡ 0) ⊎ (4095 < size_of o b p) → HasBodyFault o b p f
  list_outside : {f : Fault} → f ≡ record { number = BOUNDS; at = p } → (ListLies o b p → ⊥)
      → HasBodyFault o b p f
  table_outside : {f : Fault} → f ≡ record { number = BOUNDS; at = p } → (TableLies o b p → ⊥)
      → HasBodyFault o b p f
  other_block : {f : Fault} (i : ℕ) → f ≡ record { number = BLOCK_KIND; at = pointer_place o b p i }
      → has_data (type_of o b p) ≡ true → TableLies o b p
      → i < block_count (size_of o b p) → (IsPlain o b (pointer_of o b p i) → ⊥)
      → HasBodyFault o b p f
  block_outside : {f : Fault} (i : ℕ) → f ≡ record { number = BOUNDS; at = pointer_place o b p i }
      → has_data (type_of o b p) ≡ true → TableLies o b p
      → i < block_count (size_of o b p) → IsPlain o b (pointer_of o b p i) → (BlockLies o b p i → ⊥)
      → HasBodyFault o b p f

-- The faults of the entry at p of a list that ends at e. An entry that does not fit, 17 ListEnd,
-- has no other fault (this project's own). 13 is BadName.
pub data HasEntryFault (o : Order) (b : List ℕ) (e p : ℕ) : Fault → Type 0 where
  past_end : {f : Fault} → f ≡ record { number = LIST_END; at = p } → (Fits o b e p → ⊥)
      → HasEntryFault o b e p f
  bad_name : {f : Fault} → f ≡ record { number = BAD_NAME; at = p } → Fits o b e p
      → (IsName (name_of o b p) → ⊥)
      → HasEntryFault o b e p f
  bad_body : {f : Fault} → Fits o b e p → HasBodyFault o b p f → HasEntryFault o b e p f
