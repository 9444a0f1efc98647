-- What the system reports of a file, the nearest that a format can hold of it, and what a tree has
-- of it. (This project's own.)
use Rattle.std.specs.Prelude.{◌≡◌, ℕ, min, true, List, [], Option, Some, None, string_bytes}
use Rattle.std.specs.Prelude.{if◌then◌else◌}
use Rattle.std.specs.List.{Contains}
use Rattle.formats.specs.declared.format.Format.{Format}
use Rattle.formats.specs.declared.format.Format.TheVariants.{Romfs, Cramfs, CramfsBig}
use Rattle.manifest.specs.declared.line.Word.{Word}
use Rattle.manifest.specs.declared.line.Word.TheVariants as word
use Rattle.rom_tree.specs.Image.{contents_of}
use Rattle.rom_tree.specs.Tree.{Node, attributes_of, is_link, kind_of}
use Rattle.rom_tree.specs.declared.types.Kind.{Kind}
use Rattle.rom_tree.specs.declared.types.Kind.TheVariants as node_kind
use Rattle.build_commands.specs.Nearest.{romfs_mode}
use Rattle.build_commands.specs.declared.inventory.FileKind.{FileKind}
use Rattle.build_commands.specs.declared.inventory.FileKind.TheVariants as kind
use Rattle.build_commands.specs.declared.inventory.NamedFile.{NamedFile}

-- the kind, the mode, the owner, the group, the numbers of a device and the text of a link. Files
-- that have no such numbers have 0, and files that are no links have no text
pub record Report : Type 0 where
  pub kind : Kind
  pub mode : ℕ
  pub uid : ℕ
  pub gid : ℕ
  pub major : ℕ
  pub minor : ℕ
  pub target : List ℕ

abbrev pub kind_named : FileKind → Kind
kind_named kind.Directory = node_kind.Directory
kind_named kind.Regular = node_kind.Regular
kind_named (kind.Symlink target) = node_kind.Symlink
kind_named (kind.Block d) = node_kind.Block
kind_named (kind.Character d) = node_kind.Character
kind_named kind.Fifo = node_kind.Fifo
kind_named kind.Socket = node_kind.Socket

abbrev pub major_of : FileKind → ℕ
major_of (kind.Block d) = d.major
major_of (kind.Character d) = d.major
major_of _ = 0

abbrev pub minor_of : FileKind → ℕ
minor_of (kind.Block d) = d.minor
minor_of (kind.Character d) = d.minor
minor_of _ = 0

abbrev pub target_of : FileKind → List ℕ
target_of (kind.Symlink target) = string_bytes target
target_of _ = []

-- what the system reports of a file
abbrev pub report_of : NamedFile → Report
report_of f = record {
  kind = kind_named f.kind;
  mode = f.mode;
  uid = f.uid;
  gid = f.gid;
  major = major_of f.kind;
  minor = minor_of f.kind;
  target = target_of f.kind;
}

-- the word of a line that makes a file of some kind
abbrev pub word_for : Kind → Word
word_for node_kind.Directory = word.Dir
word_for node_kind.Regular = word.File
word_for node_kind.Symlink = word.Slink
word_for node_kind.Block = word.Block
word_for node_kind.Character = word.Character
word_for node_kind.Fifo = word.Fifo
word_for node_kind.Socket = word.Socket

-- The nearest that a format can hold of a report, if a format was chosen. romfs has no owners, and
-- one mode for each kind, except that it keeps whether a directory or a regular file may be
-- executed. cramfs has 16 bits for the owner and 8 for the group. Nothing else changes.
abbrev pub fitted_report : Option Format → Report → Report
fitted_report None r = r
fitted_report (Some Romfs) r =
    record r { mode = romfs_mode (word_for r.kind) r.mode; uid = 0; gid = 0 }
fitted_report (Some Cramfs) r = record r { uid = min r.uid 65535; gid = min r.gid 255 }
fitted_report (Some CramfsBig) r = record r { uid = min r.uid 65535; gid = min r.gid 255 }

-- what the tree of an image with these bytes has of a node
abbrev pub node_report : List ℕ → Node → Report
node_report image x = record {
  kind = kind_of x;
  mode = (attributes_of x).mode;
  uid = (attributes_of x).uid;
  gid = (attributes_of x).gid;
  major = (attributes_of x).major;
  minor = (attributes_of x).minor;
  target = if is_link x then contents_of image x else [];
}

-- two names of one file: it has several links, and both names have its device and its number
pub record AreOfOne (f g : NamedFile) : Type 0 where
  pub links : f.has_links ≡ true
  pub other_links : g.has_links ≡ true
  pub device : f.inode.device ≡ g.inode.device
  pub number : f.inode.number ≡ g.inode.number

-- the system reports the same of a file by each of its names
abbrev pub AreReportedAlike : List NamedFile → Type 0
AreReportedAlike found =
    (f g : NamedFile) → Contains found f → Contains found g → AreOfOne f g
    → report_of f ≡ report_of g
