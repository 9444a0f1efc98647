-- Which contents the regular files of a scanned directory have in a tree. (This project's own.)
use Rattle.std.specs.Prelude.{◌≡◌, ◌⊎◌, ℕ, List, [], Some, get_or, slice_get, string_bytes}
use Rattle.std.specs.List.{Contains}
use Rattle.rom_tree.specs.Image.{contents_of}
use Rattle.rom_tree.specs.Tree.{Node, kind_of}
use Rattle.rom_tree.specs.declared.types.Kind.TheVariants as node_kind
use Rattle.build_commands.specs.Reported.{AreOfOne, kind_named}
use Rattle.build_commands.specs.declared.inventory.NamedFile.{NamedFile}

-- the system reports one kind of a file by each of its names
abbrev pub HaveOneKind : List NamedFile → Type 0
HaveOneKind found =
    (f g : NamedFile) → Contains found f → Contains found g → AreOfOne f g
    → kind_named f.kind ≡ kind_named g.kind

-- The node x of an image with these bytes is a regular file. Its contents are those of a source
-- whose name is the place by which f, or another name of the same file, was found. The sources have
-- these names and contents.
pub record HasItsContents (image : List ℕ) (found : List NamedFile)
    (sources contents : List (List ℕ)) (f : NamedFile) (x : Node) : Type 0 where
  pub regular : kind_of x ≡ node_kind.Regular
  -- this name, or another name of the same file
  pub file : NamedFile
  pub among : Contains found file
  pub one : (file ≡ f) ⊎ AreOfOne f file
  -- the index of the source
  pub number : ℕ
  pub named : slice_get sources number ≡ Some (string_bytes file.place)
  pub same : contents_of image x ≡ get_or contents number []
