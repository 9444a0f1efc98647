-- The nodes that a walk without names has still to return: `to_visit`. `Passes`, `Yields`,
-- `Visits`: a step of it. (This project's own.)
use Rattle.std.specs.Prelude.{◌≡◌, ◌<◌, ◌≤◌, ℕ, false, List, [], ◌∷◌, ◌++◌, map, Some, None}
use Rattle.std.specs.Prelude.{if◌then◌else◌}
use Rattle.rom_tree.specs.declared.frame.Frame.{Frame}
use Rattle.rom_tree.specs.Tree.{Node, nodes, entries_nodes, levels}
use Rattle.rom_tree.specs.Image.{Image, image_node}
use Rattle.rom_tree.specs.Frames.{AreFrames, left, weight}
use Rattle.rom_c.specs.declared.visit.Place.{Place}
use Rattle.rom_c.specs.declared.visit.Visit.{Visit}

-- a place as a frame of `rom_tree`, without its name
abbrev pub frame_of : Place → Frame
frame_of p = record { directory = p.directory; cursor = p.cursor; name = None }

abbrev pub frames_of : List Place → List Frame
frames_of ps = map frame_of ps

abbrev pub ArePlaces : Image → List Place → Type 0
ArePlaces m ps = AreFrames m 0 (frames_of ps)

-- the nodes that are still to come, those of the last place first
unfoldable pub nodes_left : Image → List Place → List Node
nodes_left m [] = []
nodes_left m (p ∷ ps) = nodes_left m ps ++ entries_nodes (left m (frame_of p))

-- The stack `new` follows the stack `old` after some nodes were returned: less is still to come,
-- and what was to come is these nodes and what is to come now.
pub record Passes (m : Image) (old new : List Place) (given : List Node) : Type 0 where
  pub places : ArePlaces m new
  pub less : weight m (frames_of new) < weight m (frames_of old)
  pub nodes : nodes_left m old ≡ given ++ nodes_left m new

-- it follows after the node of number n
pub record Yields (m : Image) (old new : List Place) (n : ℕ) : Type 0 where
  pub node : Node
  pub at : image_node m n ≡ Some node
  pub passes : Passes m old new (node ∷ [])

-- a walk through this image's tree
pub record IsVisit (m : Image) (v : Visit) : Type 0 where
  pub depth : levels m.tree ≤ 65
  pub places : ArePlaces m v.stack.items
  pub fresh : v.begun ≡ false → v.stack.items ≡ []

-- the nodes of the names that are still to come
abbrev pub to_visit : Image → Visit → List Node
to_visit m v = if v.begun then nodes_left m v.stack.items else nodes m.tree

-- the walk `new` follows the walk `old` after the node of number n was returned
pub record Visits (m : Image) (old new : Visit) (n : ℕ) : Type 0 where
  pub node : Node
  pub first : to_visit m old ≡ node ∷ to_visit m new
  pub at : image_node m n ≡ Some node
