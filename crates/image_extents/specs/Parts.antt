-- `IsRomfsPart`, `IsCramfsPart`: which record an extent belongs to, and which bytes of this record
-- it is. (The offsets are those of the formats; which bytes are an extent is this project's own.)
use Rattle.std.specs.Prelude.{◌≡◌, ℕ, ◌-◌, ◌*◌, true, List, Some, slice_get}
use Rattle.romfs_format.specs.Record.{end_of, has_data, type_of}
use Rattle.cramfs_format.specs.declared.order.Order.{Order}
use Rattle.cramfs_format.specs.Inode.{block_count, offset_of, size_of}
use Rattle.cramfs_format.specs.Inode.{has_data as has_blocks, type_of as cramfs_type_of}
use Rattle.image_extents.specs.declared.extent.Extent.{Extent}
use Rattle.image_extents.specs.declared.extent.Extents.{Extents}
use Rattle.image_extents.specs.declared.extent.Kind.{Kind}
use Rattle.image_extents.specs.declared.extent.Kind.TheVariants.{Super, Header, Data, Table}
use Rattle.image_extents.specs.declared.extent.Kind.TheVariants.{List as ListOf}
use Rattle.image_extents.specs.declared.extent.Record.{Record}

-- there is a record of this number, and it is so
abbrev pub IsAt : Extents → ℕ → (Record → Type 0) → Type 0
IsAt e i P = (y : Record) × (slice_get e.records.items i ≡ Some y) × P y

-- In romfs, the root has all bytes before it, the superblock. Each record has its header with its
-- padded name, and the contents behind it if its type has any.
abbrev pub IsRomfsPart : List ℕ → ℕ → Extents → Extent → Kind → Type 0
IsRomfsPart b r e x Super = (x.owner ≡ 0) × (x.start ≡ 0) × (x.len ≡ r)
IsRomfsPart b r e x Header =
    IsAt e x.owner (λ y. (x.start ≡ y.offset) × (x.len ≡ end_of b y.offset - y.offset))
IsRomfsPart b r e x Data = IsAt e x.owner (λ y. has_data (type_of b y.offset) ≡ true)
IsRomfsPart b r e x ListOf = ⊥
IsRomfsPart b r e x Table = ⊥

-- In cramfs, the root has the superblock, of 76 bytes with its own inode. A directory has its list;
-- a file or a link has its block pointers, and the blocks to which they lead.
abbrev pub IsCramfsPart : Order → List ℕ → Extents → Extent → Kind → Type 0
IsCramfsPart o b e x Super = (x.owner ≡ 0) × (x.start ≡ 0) × (x.len ≡ 76)
IsCramfsPart o b e x ListOf = IsAt e x.owner (λ y. (cramfs_type_of o b y.offset ≡ 4)
    × (x.start ≡ offset_of o b y.offset) × (x.len ≡ size_of o b y.offset))
IsCramfsPart o b e x Table = IsAt e x.owner (λ y. (has_blocks (cramfs_type_of o b y.offset) ≡ true)
    × (x.start ≡ offset_of o b y.offset) × (x.len ≡ 4 * block_count (size_of o b y.offset)))
IsCramfsPart o b e x Data =
    IsAt e x.owner (λ y. has_blocks (cramfs_type_of o b y.offset) ≡ true)
IsCramfsPart o b e x Header = ⊥
