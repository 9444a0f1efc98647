-- `AreInPlace`: Linux maps the pages of the files of an image to the flash itself, if the manifest
-- gives them an ALIGN of whole pages. (This project's own. Linux's rule is
-- `program_pages.specs.Physmem`.)
use Rattle.std.specs.Prelude.{◌≡◌, ◌≢◌, ℕ, ◌+◌, ◌%◌, ◌<◌, ◌≤◌, true, false, List, ◌∷◌, ◌++◌, length}
use Rattle.std.specs.Prelude.{reverse, Some}
use Rattle.record_forest.specs.Members.{Has}
use Rattle.rom_tree.specs.Tree.{Node, ino_of, is_regular, places_of, row_from}
use Rattle.cramfs_format.specs.declared.order.Order.{Order}
use Rattle.manifest.specs.declared.line.Line.{Line}
use Rattle.manifest.specs.Lines.{ManifestLines, filed}
use Rattle.manifest.specs.Paths.{names_of}
use Rattle.manifest_tree.specs.Shape.{node_under}
use Rattle.cramfs_format.specs.Inode.{block_count}
use Rattle.program_pages.specs.Physmem.{Flash, is_whole}
use Rattle.program_pages.specs.InPlace.{IsInPlace}
use Rattle.program_pages.specs.declared.mapping.Mapping.{Mapping}

-- the image is at the front of the flash, which has an address and begins with a page
pub record HoldsImage (f : Flash) (bytes : List ℕ) : Type 0 where
  pub rest : List ℕ
  pub front : f.bytes ≡ bytes ++ rest
  pub some : f.address ≢ 0
  pub aligned : f.address % 4096 ≡ 0

-- the node is a regular file; its bytes are in one run, which begins with a page; and each page of
-- each mapping that cannot be written is mapped at its place, except a shared last one
pub record IsFileInPlace (o : Order) (f : Flash) (x : Node) : Type 0 where
  pub regular : is_regular x ≡ true
  pub start : ℕ
  pub aligned : start % 4096 ≡ 0
  pub run : places_of x ≡ row_from start (length (places_of x))
  pub mapped : IsInPlace o f x start

-- without an MMU Linux maps all pages of each mapping of the file x that cannot be written and is
-- within the file
abbrev pub IsMappedWhole : Order → Flash → Node → Type 0
IsMappedWhole o f x =
    (m : Mapping) → m.writable ≡ false → m.first < block_count (length (places_of x))
    → m.first + m.count ≤ block_count (length (places_of x)) → is_whole o f (ino_of x) m ≡ true

-- the node at the path of each line that leads to a regular file is such a file, whatever its ALIGN
abbrev pub AreMappedWhole : Order → Flash → Node → ManifestLines → Type 0
AreMappedWhole o f t m =
    (l g : Line) (n : List ℕ) (ns : List (List ℕ)) (x : Node) → Has (λ k. k ≡ l) m.lines
    → filed (reverse m.lines) l.path ≡ Some g → names_of l.path ≡ Some (n ∷ ns)
    → node_under (n ∷ ns) t ≡ Some x → IsMappedWhole o f x

-- A line l of the manifest leads to a regular file, as `file`, `same` and `hard` lines do, and g is
-- the `file` line whose contents that file has. If the ALIGN of g is a multiple of 4,096, the node
-- at the path of l is a file in place.
abbrev pub AreInPlace : Order → Flash → Node → ManifestLines → Type 0
AreInPlace o f t m =
    (l g : Line) (n : List ℕ) (ns : List (List ℕ)) (x : Node) → Has (λ k. k ≡ l) m.lines
    → filed (reverse m.lines) l.path ≡ Some g → g.align % 4096 ≡ 0
    → names_of l.path ≡ Some (n ∷ ns) → node_under (n ∷ ns) t ≡ Some x → IsFileInPlace o f x
