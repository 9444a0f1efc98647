-- `IsMeant`: a tree is what a manifest means, defined only by the manifest's lines. (This project's
-- own.)
use Rattle.std.specs.Prelude.{◌≡◌, ℕ, List, Some, ◌↔◌}
use Rattle.std.specs.Option.{option_map}
use Rattle.rom_tree.specs.Tree.{Node, ino_of}
use Rattle.manifest.specs.Lines.{ManifestLines}
use Rattle.manifest_tree.specs.Names.{Inode}
use Rattle.manifest_tree.specs.Shape.{node_value, node_under, file_value}
use Rattle.manifest_tree.specs.Tree.{file_named}

-- The tree t of an image is what a manifest means, if its sources have these contents and sizes.
-- Each path leads to the file of the line with its names, and two paths lead to one node exactly if
-- they lead to one line.
pub record IsMeant (image : List ℕ) (t : Node) (contents : List (List ℕ)) (m : ManifestLines)
    (sizes : List ℕ) : Type 0 where
  pub values : (q : List (List ℕ))
      → option_map (node_value image) (node_under q t)
      ≡ option_map (file_value contents) (file_named m.lines sizes q)
  pub shared : (p q : List (List ℕ)) (x y : Node) (i j : Inode) → node_under p t ≡ Some x
      → node_under q t ≡ Some y
      → file_named m.lines sizes p ≡ Some i → file_named m.lines sizes q ≡ Some j
      → (ino_of x ≡ ino_of y) ↔ (i.line ≡ j.line)
