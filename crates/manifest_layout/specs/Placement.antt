-- `IsPlaced`: each file with the contents of a `file` line has its bytes in one run, which begins
-- at a multiple of its ALIGN. `AreShared`: files with the contents of one `file` line have them at
-- the same offsets. `AreApart`: files of different lines have no offset in common. `CopiesStand`:
-- the contents of such files are shared in cramfs, and apart in romfs. `HasVolume`: the volume's
-- name. (This project's own; the offsets of the names are those of Linux
-- Documentation/filesystems/romfs.rst and include/uapi/linux/cramfs_fs.h.)
use Rattle.std.specs.Prelude.{◌≡◌, ◌≢◌, ℕ, List, ◌∷◌, reverse, take, drop, Some}
use Rattle.record_forest.specs.Members.{Has}
use Rattle.rom_tree.specs.Tree.{Node, places_of}
use Rattle.romfs_format.specs.Record.{before_zero}
use Rattle.manifest.specs.declared.line.Line.{Line}
use Rattle.manifest.specs.Lines.{ManifestLines, filed, led}
use Rattle.manifest.specs.Paths.{names_of}
use Rattle.manifest_tree.specs.Shape.{node_under}
use Rattle.manifest_tree.specs.Placement.{IsRun}
use Rattle.romfs_layout.specs.Disjoint.{AreDisjoint}
use Rattle.formats.specs.Format.{Format, romfs, cramfs}

-- A line l of the manifest leads to a regular file, as `file`, `same` and `hard` lines do, and o is
-- the `file` line whose contents that file has. Then the node at the path of l has its bytes in one
-- run of the image, which begins at a multiple of the ALIGN of o.
abbrev pub IsPlaced : Node → ManifestLines → Type 0
IsPlaced t m =
    (l o : Line) (n : List ℕ) (ns : List (List ℕ)) (x : Node) → Has (λ k. k ≡ l) m.lines
    → filed (reverse m.lines) l.path ≡ Some o → names_of l.path ≡ Some (n ∷ ns)
    → node_under (n ∷ ns) t ≡ Some x
    → IsRun o.align (places_of x)

-- Two lines k and l of the manifest lead to the contents of one `file` line o. Then the nodes at
-- their paths have their bytes at the same offsets of the image.
abbrev pub AreShared : Node → ManifestLines → Type 0
AreShared t m =
    (k l o : Line) (n p : List ℕ) (ns ps : List (List ℕ)) (x y : Node) → Has (λ z. z ≡ k) m.lines
    → Has (λ z. z ≡ l) m.lines → filed (reverse m.lines) k.path ≡ Some o
    → filed (reverse m.lines) l.path ≡ Some o → names_of k.path ≡ Some (n ∷ ns)
    → names_of l.path ≡ Some (p ∷ ps) → node_under (n ∷ ns) t ≡ Some x
    → node_under (p ∷ ps) t ≡ Some y → places_of x ≡ places_of y

-- Two lines k and l of the manifest lead to different lines a and b, each to itself or by `hard` to
-- another. Then the nodes at their paths have no offset of the image in common.
abbrev pub AreApart : Node → ManifestLines → Type 0
AreApart t m =
    (k l a b : Line) (n p : List ℕ) (ns ps : List (List ℕ)) (x y : Node) → Has (λ z. z ≡ k) m.lines
    → Has (λ z. z ≡ l) m.lines → led (reverse m.lines) k.path ≡ Some a
    → led (reverse m.lines) l.path ≡ Some b → a.number ≢ b.number → names_of k.path ≡ Some (n ∷ ns)
    → names_of l.path ≡ Some (p ∷ ps) → node_under (n ∷ ns) t ≡ Some x
    → node_under (p ∷ ps) t ≡ Some y → AreDisjoint (places_of x) (places_of y)

-- files with the same contents: in romfs each has a copy, in cramfs they share one
abbrev pub CopiesStand : Format → Node → ManifestLines → Type 0
CopiesStand romfs t m = AreApart t m
CopiesStand (cramfs o) t m = AreShared t m

-- the volume's name in the bytes: up to the first zero from offset 16 on, or in cramfs in the 16
-- bytes at offset 48
abbrev pub HasVolume : Format → List ℕ → List ℕ → Type 0
HasVolume romfs bytes name = before_zero (drop 16 bytes) ≡ name
HasVolume (cramfs o) bytes name = before_zero (take 16 (drop 48 bytes)) ≡ name
