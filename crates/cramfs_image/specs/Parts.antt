-- `AreParts`: these numbers, with the byte order, make a checked image again from its bytes.
-- `tree_of_parts`, `cursors_of_parts`: the tree and the cursors that the image then shows. (This
-- project's own.)
use Rattle.std.specs.Prelude.{ℕ, ◌≤◌, List, length, take, Option}
use Rattle.rom_tree.specs.Tree.{Node}
use Rattle.cramfs_format.specs.Refers.{root_place}
use Rattle.cramfs_format.specs.Made.{made, cursor_of, IsCramfs}
use Rattle.cramfs_image.specs.declared.image.Parts.{Parts}

-- the facts that a check has shown hold for these bytes with these numbers
pub record AreParts (all : List ℕ) (n : Parts) : Type 0 where
  pub within : n.accessible ≤ length all
  pub sound : IsCramfs n.order (take n.accessible all) n.references

-- the tree that these bytes then hold
abbrev pub tree_of_parts : List ℕ → Parts → Node
tree_of_parts all n = made n.order (take n.accessible all) n.references root_place

-- the meaning of its cursors
abbrev pub cursors_of_parts : List ℕ → Parts → ℕ → ℕ → Option ℕ
cursors_of_parts all n = cursor_of n.order (take n.accessible all) n.references
