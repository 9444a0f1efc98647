-- `file_contents`: the contents of the sources with which the image is built again. `AreSources`:
-- the sources that the lines name are the image's files. (This project's own.)
use Rattle.std.specs.Prelude.{◌≡◌, ℕ, Bool, ◌&&◌, List, [], ◌∷◌, ◌++◌, is_none, if◌then◌else◌, map}
use Rattle.manifest.specs.Lines.{sources_of as sources_named}
use Rattle.manifest.specs.Printed.{as_read}
use Rattle.rom_tree.specs.Image.{Image, contents_of}
use Rattle.rom_tree.specs.Names.{Name, names}
use Rattle.rom_tree.specs.Tree.{Node, ino_of, is_regular}
use Rattle.image_manifest.specs.Lines.{first_name, member_lines}
use Rattle.image_manifest.specs.declared.rules.FileRules.{FileRules}

-- a name behind others has a source if it is the first name of a regular file
abbrev pub has_source : List Name → Name → Bool
has_source before n = is_regular n.node && is_none (first_name (ino_of n.node) before)

-- the contents of the sources of names, behind others
abbrev pub sources_behind : Image → List Name → List Name → List (List ℕ)
sources_behind m before [] = []
sources_behind m before (n ∷ ns) =
    (if has_source before n then contents_of m.bytes n.node ∷ [] else [])
    ++ sources_behind m (before ++ n ∷ []) ns

-- the contents of the sources with which the image is built again, in the order of their lines
unfoldable pub file_contents : Image → List (List ℕ)
file_contents m = sources_behind m [] (names m.tree)

-- the names that have a source, behind others
abbrev pub source_names_behind : List Name → List Name → List Name
source_names_behind before [] = []
source_names_behind before (n ∷ ns) =
    (if has_source before n then n ∷ [] else []) ++ source_names_behind (before ++ n ∷ []) ns

-- the first name of each regular file, in the order of their lines
unfoldable pub source_names : Node → List Name
source_names t = source_names_behind [] (names t)

-- The sources that the lines name are the regular files of the image, in their order. Each is the
-- path of the file's first name in the directory. Their contents are those of the files.
pub record AreSources (m : Image) (volume : List ℕ) (rules : FileRules) : Type 0 where
  pub named : sources_named (as_read volume (member_lines m rules)).lines
      ≡ map (λ n. rules.directory.now ++ n.path) (source_names m.tree)
  pub held : file_contents m ≡ map (λ n. contents_of m.bytes n.node) (source_names m.tree)
