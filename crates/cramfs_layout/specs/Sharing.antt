-- `SourcesAreShared`: files with the contents of one source have their bytes at the same offsets of
-- an image. (This project's own.)
use Rattle.std.specs.Prelude.{◌≡◌, ℕ, List, Some}
use Rattle.rom_tree.specs.Tree.{Node, places_of}
use Rattle.manifest_tree.specs.Names.{source, Inode, Names}
use Rattle.manifest_tree.specs.Shape.{node_under, file_under, with_names}

-- any two files of these names with the contents of one source have their bytes at the same offsets
abbrev pub SourcesAreShared : Node → Inode → Names → Type 0
SourcesAreShared t root n =
    (q r : List (List ℕ)) (x y : Node) (i j : Inode) (k : ℕ) → node_under q t ≡ Some x
    → node_under r t ≡ Some y → file_under q (with_names root n) ≡ Some i
    → file_under r (with_names root n) ≡ Some j → i.fill ≡ source k → j.fill ≡ source k
    → places_of x ≡ places_of y
