-- `IsRun`: offsets one after the other, of which the first is a multiple of an alignment.
-- `AreInRuns`: each file of some names has its bytes at such offsets. (This project's own.)
use Rattle.std.specs.Prelude.{◌≡◌, ℕ, ◌*◌, List, length, Some}
use Rattle.rom_tree.specs.Tree.{Node, places_of, row_from}
use Rattle.manifest_tree.specs.Names.{Inode, Names}
use Rattle.manifest_tree.specs.Shape.{node_under, file_under, with_names}

-- offsets one after the other, of which the first is a multiple of `align`; or none
abbrev pub IsRun : ℕ → List ℕ → Type 0
IsRun align ps = (k : ℕ) × (ps ≡ row_from (k * align) (length ps))

-- each file of these names has its bytes in one run of the image, which begins at a multiple of its
-- alignment
abbrev pub AreInRuns : Node → Inode → Names → Type 0
AreInRuns t root n =
    (q : List (List ℕ)) (x : Node) (i : Inode) → node_under q t ≡ Some x
    → file_under q (with_names root n) ≡ Some i
    → IsRun i.align (places_of x)
