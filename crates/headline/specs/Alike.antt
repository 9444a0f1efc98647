-- `AreAlike`: at each path two trees have the same file or nothing, and two paths lead to one node
-- in both or in neither. Numbers and offsets may differ. (This project's own.)
use Rattle.std.specs.Prelude.{◌≡◌, ◌↔◌, ℕ, List, Some}
use Rattle.std.specs.Option.{option_map}
use Rattle.manifest_tree.specs.Shape.{node_under, node_value}
use Rattle.rom_tree.specs.Tree.{Node, ino_of}

-- The tree t of the bytes a and the tree u of the bytes b are alike. At each path both have a node
-- of one kind with the same attributes and bytes, or both have nothing. Two paths lead to one node
-- in t exactly if they do in u.
pub record AreAlike (a : List ℕ) (t : Node) (b : List ℕ) (u : Node) : Type 0 where
  pub values : (q : List (List ℕ))
      → option_map (node_value a) (node_under q t) ≡ option_map (node_value b) (node_under q u)
  pub shared : (p q : List (List ℕ)) (x y v w : Node) → node_under p t ≡ Some x
      → node_under q t ≡ Some y → node_under p u ≡ Some v → node_under q u ≡ Some w
      → (ino_of x ≡ ino_of y) ↔ (ino_of v ≡ ino_of w)
