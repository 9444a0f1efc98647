-- The bytes of an image that are lent. (This project's own.)
use Rattle.std.specs.Prelude.{◌≡◌, ◌+◌, ◌*◌, ◌<◌, ◌≤◌, ℕ, List, [], ◌∷◌, length, take, drop}
use Rattle.std.specs.Prelude.{reverse, true, None, Some, Ok}
use Rattle.record_forest.specs.Members.{Has}
use Rattle.manifest.specs.declared.line.Line.{Line}
use Rattle.manifest.specs.Lines.{ManifestLines, filed}
use Rattle.manifest.specs.Paths.{names_of}
use Rattle.manifest_tree.specs.Shape.{node_under}
use Rattle.rom_tree.specs.Image.{Image, contents_of}
use Rattle.rom_tree.specs.Tree.{Node, IsIn, nodes, is_regular, places_of}
use Rattle.open_files.specs.Calls.{Lent}
use Rattle.open_files.specs.Lending.{first_place, lent_of}
use Rattle.open_files.specs.Machine.{Table, image_calls, lowest_free, no_files}
use Rattle.rom_serve.specs.Machines.{image_machine}

-- A slice of the image's bytes from the reported offset on. It has the bytes of the file x from
-- `at` on. The file is in the image's tree.
pub record IsPieceOf (m : Image) (x : Node) (at : ℕ) (l : Lent) : Type 0 where
  pub file : IsIn x (nodes m.tree)
  pub within : l.place + length l.bytes ≤ length m.bytes
  pub of_image : l.bytes ≡ take (length l.bytes) (drop l.place m.bytes)
  pub of_file : l.bytes ≡ take (length l.bytes) (drop at (contents_of m.bytes x))

-- what is open after these lines, if t was open before them
abbrev pub open_from : Image → Table Node → List (List ℕ) → Table Node
open_from m t [] = t
open_from m t (line ∷ lines) = open_from m ((image_machine m).next t line) lines

-- nothing was open at first
abbrev pub open_after : Image → List (List ℕ) → Table Node
open_after m lines = open_from m (no_files 64) lines

-- In the image, with t open, `map` of fd from 0 on and of the size of the file x is answered with
-- all of its bytes and their first offset. This is a multiple of `align`.
pub record IsMappedWhole (m : Image) (t : Table Node) (fd : ℕ) (x : Node) (align : ℕ) : Type 0 where
  pub times : ℕ
  pub aligned : first_place (places_of x) ≡ times * align
  pub answered : ((image_calls 64 m).map_piece t fd 0 (length (places_of x))).reply
      ≡ Ok (None, lent_of (first_place (places_of x)) (contents_of m.bytes x))

-- After these lines, `open` of the path is answered with fd. One call of `map` is then answered
-- with all bytes of the file x.
pub record IsOpenedWhole (m : Image) (lines : List (List ℕ)) (path : List ℕ) (fd : ℕ) (x : Node)
    (align : ℕ) : Type 0 where
  pub opened : ((image_calls 64 m).open_path (open_after m lines) path).reply ≡ Ok fd
  pub mapped : IsMappedWhole m ((image_calls 64 m).open_path
      (open_after m lines) path).state fd x align

-- For each line l of the manifest whose path leads to a regular file x with bytes, and for each
-- free descriptor fd: the file is opened at fd, and one call lends all of it. Its first offset is a
-- multiple of the ALIGN of o, the `file` line that has its contents.
abbrev pub AreOpenedWhole : Image → ManifestLines → Type 0
AreOpenedWhole image m =
    (lines : List (List ℕ)) (l o : Line) (n : List ℕ) (ns : List (List ℕ)) (x : Node) (fd : ℕ)
    → Has (λ k. k ≡ l) m.lines
    → filed (reverse m.lines) l.path ≡ Some o → names_of l.path ≡ Some (n ∷ ns)
    → node_under (n ∷ ns) image.tree ≡ Some x → is_regular x ≡ true → 0 < length (places_of x)
    → lowest_free (open_after image lines) ≡ Some fd → IsOpenedWhole image lines l.path fd x o.align
