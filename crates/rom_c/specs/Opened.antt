-- `stands_in`: the file or directory that is open, by the number of its node and a position, in a
-- tree of the bytes. `stands_at`: the same in the tree that an image's numbers describe. (This
-- project's own.)
use Rattle.std.specs.Prelude.{ℕ, List, Option}
use Rattle.rom_tree.specs.Tree.{Node, node_at}
use Rattle.open_files.specs.Machine.{Open}
use Rattle.open_files.specs.Slots.{open_as}
use Rattle.image_check.specs.declared.any.Parts.{Parts}
use Rattle.image_check.specs.Parts.{tree_of_parts, cursors_of_parts}

-- in the tree t of these bytes: a file at a byte, or a directory at the index of a cursor
abbrev pub stands_in : Node → List ℕ → Parts → ℕ → ℕ → Option (Open Node)
stands_in t all n node position =
    open_as (λ x. x) position (cursors_of_parts all n node position) (node_at t node)

-- in the tree of the numbers
abbrev pub stands_at : List ℕ → Parts → ℕ → ℕ → Option (Open Node)
stands_at all n node position = stands_in (tree_of_parts all n) all n node position
