-- `IsLawfulTree`: a tree that a manifest can describe. `IsDescribable`: an image that a manifest
-- describes whole. `HaveNoZeros`: no link's text has a zero byte. `IsDescribedWhole`: the manifest
-- is valid, has exactly these lines and sources, and means the image's tree. (This project's own.)
use Rattle.std.specs.Prelude.{◌≡◌, ℕ, ◌==◌, ◌<◌, ◌^◌, false, true, List, None, Ok, length, map}
use Rattle.std.specs.List.{All, list_any}
use Rattle.manifest.specs.Grammar.{is_align, manifest_of}
use Rattle.manifest.specs.Paths.{is_bad_name}
use Rattle.manifest.specs.Printed.{as_read, manifest_text}
use Rattle.manifest_tree.specs.Meant.{IsMeant}
use Rattle.rom_tree.specs.Image.{Image, contents_of, find_entry}
use Rattle.rom_tree.specs.Tree.{Node, Attributes, Entries, no_entries, entry, IsIn, nodes}
use Rattle.rom_tree.specs.Tree.{attributes_of, entries_of, is_directory, is_link}
use Rattle.image_manifest.specs.ByPaths.{HaveOnePath, has_slash}
use Rattle.image_manifest.specs.Lines.{member_lines}
use Rattle.image_manifest.specs.Members.{has_long_path}
use Rattle.image_manifest.specs.Sources.{AreSources, file_contents}
use Rattle.image_manifest.specs.declared.rules.FileRules.{FileRules}

-- A name that a manifest accepts: 1 to 255 bytes, none of them zero or a slash, and neither `.` nor
-- `..`.
pub record IsLawfulName (name : List ℕ) : Type 0 where
  pub bytes : All (λ b. b < 256) name
  pub no_zero : list_any (λ b. b == 0) name ≡ false
  pub no_slash : has_slash name ≡ false
  pub good : is_bad_name name ≡ false

-- each name of a list is valid, and none occurs twice
abbrev pub IsLawfulList : Entries → Type 0
IsLawfulList no_entries = Unit {0}
IsLawfulList (entry name x es) = IsLawfulName name × (find_entry es name ≡ None) × IsLawfulList es

-- a mode of twelve bits, and other numbers of 32 bits
pub record HasSmallNumbers (a : Attributes) : Type 0 where
  pub mode : a.mode < 4096
  pub uid : a.uid < 2 ^ 32
  pub gid : a.gid < 2 ^ 32
  pub major : a.major < 2 ^ 32
  pub minor : a.minor < 2 ^ 32

-- A tree that a manifest can describe, as is each tree that the checks accept: its root is a
-- directory, each name is valid and occurs once in its list, numbers are small, and each directory
-- has one path.
pub record IsLawfulTree (t : Node) : Type 0 where
  pub root : is_directory t ≡ true
  pub lists : (x : Node) → IsIn x (nodes t) → IsLawfulList (entries_of x)
  pub numbers : (x : Node) → IsIn x (nodes t) → HasSmallNumbers (attributes_of x)
  pub directories : HaveOnePath t

-- no link's text has a zero byte
abbrev pub HaveNoZeros : Image → Type 0
HaveNoZeros m = (x : Node) → IsIn x (nodes m.tree) → is_link x ≡ true
    → list_any (λ b. b == 0) (contents_of m.bytes x) ≡ false

-- An image that a manifest describes whole: its tree is valid, no link's text has a zero byte, and
-- no path is too long.
pub record IsDescribable (m : Image) : Type 0 where
  pub bytes : All (λ b. b < 256) m.bytes
  pub tree : IsLawfulTree m.tree
  pub links : HaveNoZeros m
  pub paths : has_long_path m.tree ≡ false

-- Rules with which a manifest is valid: the directory is a name of bytes, and the alignment is one
-- that a manifest accepts.
pub record AreValid (rules : FileRules) : Type 0 where
  pub directory : All (λ b. b < 256) rules.directory.now
  pub align : is_align rules.align ≡ true

-- The image's manifest, with this volume and its sources in this directory, is valid and has
-- exactly the lines of its names. The sources are the image's files. If they have the files'
-- contents, the manifest means the image's tree.
pub record IsDescribedWhole (m : Image) (volume : List ℕ) (rules : FileRules) : Type 0 where
  pub read : manifest_of (manifest_text volume (member_lines m rules))
      ≡ Ok (as_read volume (member_lines m rules))
  pub means : IsMeant m.bytes m.tree (file_contents m) (as_read volume (member_lines m rules))
      (map length (file_contents m))
  pub sources : AreSources m volume rules
