-- `AreWell`: names and files that a cramfs image can hold, if the sources have these contents.
-- `AllRead`: for the proofs, the meaning of the layout's entries in the bytes. An inode of cramfs
-- has 16 bits for the owner, 8 for the group, 24 for a size, and 6 for the length of a name in
-- units of 4 bytes; a file has no further name. (Linux include/uapi/linux/cramfs_fs.h.)
use Rattle.std.specs.Prelude.{true, ◌≡◌, ℕ, ◌+◌, ◌*◌, ◌%◌, ◌^◌, ◌<◌, ◌≤◌, List, length}
use Rattle.std.specs.List.{AllByRecursion as Every}
use Rattle.rom_tree.specs.declared.types.Kind.{Kind}
use Rattle.rom_tree.specs.declared.types.Kind.TheVariants.{Directory, Regular, Symlink, Block}
use Rattle.rom_tree.specs.declared.types.Kind.TheVariants.{Character, Socket, Fifo}
use Rattle.cramfs_format.specs.declared.order.Order.{Order}
use Rattle.cramfs_format.specs.Inode.{block_count}
use Rattle.cramfs_format.specs.Tree.{precedes}
use Rattle.rom_fields.specs.Parts.{HasAt}
use Rattle.manifest_tree.specs.Names.{no_bytes, Inode, Names, nothing, leaf, link, subdirectory}
use Rattle.manifest_tree.specs.Names.{bytes_of}
use Rattle.manifest_tree.specs.Names.{source}
use Rattle.manifest_tree.specs.Lists.{StandsIn, IsFree}
use Rattle.cramfs_layout.specs.Layout.{size_by, entry_len, list_len, State, Table, kept, table_by}
use Rattle.cramfs_layout.specs.Layout.{after_file, after_list, after_names, list_offset, pad4}
use Rattle.cramfs_layout.specs.Layout.{pointers}
use Rattle.cramfs_layout.specs.Reads.{ReadsEntry}

-- Only a device has numbers, and only a file or a link has bytes. A link's text has 1 to 4,095
-- bytes.
abbrev pub FitsKind : Kind → Inode → Type 0
FitsKind Directory i = ⊥
FitsKind Regular i = (i.major ≡ 0) × (i.minor ≡ 0)
FitsKind Symlink i = (i.major ≡ 0) × (i.minor ≡ 0) × (1 ≤ i.size) × (i.size ≤ 4095)
FitsKind Block i = (i.major < 256) × (i.minor < 256) × (i.fill ≡ no_bytes)
FitsKind Character i = (i.major < 256) × (i.minor < 256) × (i.fill ≡ no_bytes)
FitsKind Socket i = (i.major ≡ 0) × (i.minor ≡ 0) × (i.fill ≡ no_bytes)
FitsKind Fifo i = (i.major ≡ 0) × (i.minor ≡ 0) × (i.fill ≡ no_bytes)

-- a file that is not a directory; its data are at a multiple of 4 bytes
pub record IsFile (contents : List (List ℕ)) (i : Inode) : Type 0 where
  pub kind : FitsKind i.kind i
  pub mode : i.mode < 4096
  pub owner : (i.uid < 2 ^ 16) × (i.gid < 2 ^ 8)
  pub bytes : length (bytes_of contents i.fill) ≡ i.size
  pub small : i.size < 2 ^ 24
  pub fours : ℕ
  pub some : 0 < fours
  pub aligned : i.align ≡ 4 * fours

-- a directory with these names
pub record IsDirectory (i : Inode) (own : Names) : Type 0 where
  pub kind : i.kind ≡ Directory
  pub mode : i.mode < 4096
  pub owner : (i.uid < 2 ^ 16) × (i.gid < 2 ^ 8)
  pub numbers : (i.major ≡ 0) × (i.minor ≡ 0)
  pub bytes : i.fill ≡ no_bytes
  pub small : list_len own < 2 ^ 24

-- a name that may be in a list before these, which come after it in order
abbrev pub IsName : List ℕ → Names → Type 0
IsName name after = IsFree name after × (length name ≤ 252)
    × ((m : List ℕ) → StandsIn m after → precedes name m ≡ true)

-- names and files that cramfs can hold
abbrev pub AreWell : List (List ℕ) → Names → Type 0
AreWell contents nothing = Unit {0}
AreWell contents (leaf name i after) =
    IsName name after × IsFile contents i × AreWell contents after
AreWell contents (link name i after) = ⊥
AreWell contents (subdirectory name i own after) =
    IsName name after × IsDirectory i own × AreWell contents own × AreWell contents after

-- at t is a table of blocks that hold these bytes, all of it behind the superblock and before
-- `high`
pub record IsStored (o : Order) (b bytes : List ℕ) (high t : ℕ) : Type 0 where
  pub place : ℕ
  pub table : HasAt b t (pointers o place (block_count (length bytes)))
  pub content : HasAt b place bytes
  pub low : 76 ≤ t
  pub even : t % 4 ≡ 0
  pub place_even : place % 4 ≡ 0
  pub behind : t + 4 * block_count (length bytes) ≤ place
  pub within : place + length bytes ≤ high

-- each table of a source is stored
abbrev pub AreStored : Order → List ℕ → List (List ℕ) → ℕ → List Table → Type 0
AreStored o b contents high ts =
    Every (λ (x : Table). IsStored o b (bytes_of contents (source x.source)) high x.place) ts

-- the entries of a list from l on, and what they have, are read as they are laid after s
abbrev pub AllRead : Order → List ℕ → List (List ℕ) → ℕ → ℕ → State → Names → Type 0
AllRead o b contents high l s nothing = Unit {0}
AllRead o b contents high l s (leaf name i rest) =
    ReadsEntry o b l name i (size_by i.kind i) (table_by (kept s.tables i) s.at)
    × (0 < i.size → IsStored o b (bytes_of contents i.fill) high (table_by (kept s.tables i) s.at))
    × AllRead o b contents high (l + entry_len name) (after_file s i) rest
AllRead o b contents high l s (link name i rest) = ⊥
AllRead o b contents high l s (subdirectory name i own rest) =
    ReadsEntry o b l name i (list_len own) (list_offset s.at own)
    × AllRead o b contents high (pad4 s.at) (after_list s own) own
    × AllRead o b contents high (l + entry_len name) (after_names (after_list s own) own) rest
