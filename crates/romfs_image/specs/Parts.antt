-- `AreParts`: these numbers make a checked image again from its bytes. `tree_of_parts`,
-- `cursors_of_parts`: the tree and the cursors that the image then shows. (This project's own.)
use Rattle.std.specs.Prelude.{ℕ, ◌+◌, ◌<◌, ◌≤◌, List, length, take}
use Rattle.rom_tree.specs.Tree.{Node}
use Rattle.romfs_format.specs.Made.{made, cursor_of, IsRomfs}
use Rattle.romfs_image.specs.declared.image.Parts.{Parts}
use Rattle.std.specs.Prelude.{Option}

-- the facts that a check has shown hold for these bytes with these numbers
pub record AreParts (all : List ℕ) (n : Parts) : Type 0 where
  pub within : n.accessible ≤ length all
  pub below : 0 < n.root
  pub header : n.root + 32 ≤ n.accessible
  pub sound : IsRomfs (take n.accessible all) n.root n.references

-- the tree that these bytes then hold
abbrev pub tree_of_parts : List ℕ → Parts → Node
tree_of_parts all n = made (take n.accessible all) n.root n.references n.root

-- the meaning of its cursors
abbrev pub cursors_of_parts : List ℕ → Parts → ℕ → ℕ → Option ℕ
cursors_of_parts all n = cursor_of (take n.accessible all) n.root n.references
