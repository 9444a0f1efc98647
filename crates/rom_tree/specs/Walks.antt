-- `to_come`: the names that a walk has still to return. `IsGiven`: the first of them was returned,
-- with its path and name. (This project's own.)
use Rattle.std.specs.Prelude.{◌≡◌, ◌≤◌, ℕ, false, List, [], ◌∷◌, Some, None, if◌then◌else◌}
use Rattle.rom_tree.specs.Tree.{levels}
use Rattle.rom_tree.specs.Image.{Image, image_node}
use Rattle.rom_tree.specs.Names.{Name, names}
use Rattle.rom_tree.specs.Frames.{AreFrames, pending, last_name, way_of}
use Rattle.rom_tree.specs.declared.frame.Walk.{Walk}

-- a walk through this image's tree
pub record IsWalk (m : Image) (w : Walk) : Type 0 where
  pub depth : levels m.tree ≤ 65
  pub frames : AreFrames m 0 w.stack.items
  pub fresh : w.begun ≡ false → (w.stack.items ≡ []) × (w.name ≡ None)

-- the names that are still to come
abbrev pub to_come : Image → Walk → List Name
to_come m w = if w.begun then pending m [] w.stack.items else names m.tree

-- the path and the last name of the node that was returned last
abbrev pub given_path : Walk → List ℕ
given_path w = way_of w.name w.entered w.stack.items

abbrev pub given_name : Walk → List ℕ
given_name w = last_name w.name

-- The walk `new` follows the walk `old` after the node of number n was returned: the node of the
-- first name that was to come, whose path and last name the walk has now.
pub record IsGiven (m : Image) (old new : Walk) (n : ℕ) : Type 0 where
  pub name : Name
  pub first : to_come m old ≡ name ∷ to_come m new
  pub node : image_node m n ≡ Some name.node
  pub path : given_path new ≡ name.path
  pub last : given_name new ≡ name.last

-- the walk is at its end, and stays there
pub record IsOver (m : Image) (old new : Walk) : Type 0 where
  pub before : to_come m old ≡ []
  pub after : to_come m new ≡ []
