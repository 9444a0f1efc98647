-- `AreWell`: names and files that a romfs image can hold, if the sources have these contents.
-- `AreLinks`: each further name is that of one of the files. Headers of romfs have no owner, one
-- bit of the mode, and 16 bits for each number of a device. (Linux
-- Documentation/filesystems/romfs.rst.)
use Rattle.std.specs.Prelude.{◌≡◌, ℕ, ◌*◌, ◌<◌, ◌≤◌, max, List, [], ◌∷◌, length, Option, Some, None}
use Rattle.std.specs.Prelude.{if◌then◌else◌, ◌==◌}
use Rattle.rom_tree.specs.declared.types.Kind.{Kind}
use Rattle.rom_tree.specs.declared.types.Kind.TheVariants.{Directory, Regular, Symlink, Block}
use Rattle.rom_tree.specs.declared.types.Kind.TheVariants.{Character, Socket, Fifo}
use Rattle.romfs_format.specs.Tree.{mode_named}
use Rattle.manifest_tree.specs.Names.{no_bytes, Inode, Names, nothing, leaf, link, subdirectory}
use Rattle.manifest_tree.specs.Names.{bytes_of}
use Rattle.romfs_layout.specs.Layout.{number_of, data_align, runnable}
use Rattle.manifest_tree.specs.Lists.{IsFree}

-- the mode is the one that romfs has for its kind, with the bit "executable" or without it
abbrev pub HasMode : Inode → Type 0
HasMode i = mode_named (number_of i.kind) (i.mode == runnable) ≡ i.mode

-- Only a device has numbers, and only a file or a link has bytes. A link's text has 1 to 4,095
-- bytes.
abbrev pub FitsKind : Kind → Inode → Type 0
FitsKind Directory i = ⊥
FitsKind Regular i = (i.major ≡ 0) × (i.minor ≡ 0)
FitsKind Symlink i = (i.major ≡ 0) × (i.minor ≡ 0) × (1 ≤ i.size) × (i.size ≤ 4095)
FitsKind Block i = (i.major < 65536) × (i.minor < 65536) × (i.fill ≡ no_bytes)
FitsKind Character i = (i.major < 65536) × (i.minor < 65536) × (i.fill ≡ no_bytes)
FitsKind Socket i = (i.major ≡ 0) × (i.minor ≡ 0) × (i.fill ≡ no_bytes)
FitsKind Fifo i = (i.major ≡ 0) × (i.minor ≡ 0) × (i.fill ≡ no_bytes)

-- a file that is not a directory; its data are at a multiple of 16 bytes, and of its alignment
pub record IsFile (contents : List (List ℕ)) (i : Inode) : Type 0 where
  pub kind : FitsKind i.kind i
  pub mode : HasMode i
  pub owner : (i.uid ≡ 0) × (i.gid ≡ 0)
  pub bytes : length (bytes_of contents i.fill) ≡ i.size
  pub sixteens : ℕ
  pub some : 0 < sixteens
  pub aligned : data_align i ≡ 16 * sixteens
  pub times : ℕ
  pub of_align : max 16 i.align ≡ times * i.align

-- a directory
pub record IsDirectory (i : Inode) : Type 0 where
  pub kind : i.kind ≡ Directory
  pub mode : HasMode i
  pub owner : (i.uid ≡ 0) × (i.gid ≡ 0)
  pub numbers : (i.major ≡ 0) × (i.minor ≡ 0)
  pub bytes : i.fill ≡ no_bytes

-- names and files that romfs can hold
abbrev pub AreWell : List (List ℕ) → Names → Type 0
AreWell contents nothing = Unit {0}
AreWell contents (leaf name i after) =
    IsFree name after × IsFile contents i × AreWell contents after
AreWell contents (link name i after) =
    IsFree name after × IsFile contents i × AreWell contents after
AreWell contents (subdirectory name i own after) =
    IsFree name after × IsDirectory i × AreWell contents own × AreWell contents after

-- the file of a line
abbrev pub file_of : List Inode → ℕ → Option Inode
file_of [] line = None
file_of (i ∷ is) line = if i.line == line then Some i else file_of is line

-- each further name is that of one of these files
abbrev pub AreLinks : List Inode → Names → Type 0
AreLinks all nothing = Unit {0}
AreLinks all (leaf name i after) = AreLinks all after
AreLinks all (link name i after) = (file_of all i.line ≡ Some i) × AreLinks all after
AreLinks all (subdirectory name i own after) = AreLinks all own × AreLinks all after
