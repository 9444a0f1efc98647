use Rattle.std.proofs.Common.{◌≡◌, ◌-◌, ◌≤◌, Some, take}
use Rattle.sha2.specs.Hashers.{Holds256}
use Rattle.rom_tree.specs.Tree.{Node}
use Rattle.rom_tree.specs.Image.{Image, image_node, contents_of}
use Rattle.image_compare.proofs.hashing.file_digest.Given as goal

-- the hasher holds the bytes before `at`
abbrev pub invariant-loop-at : goal.invariant-loop-at
invariant-loop-at g l = record {
  within : l.at ≤ l.size;
  held : (x : Node) → image_node (g.T.Viewed.image l.image) l.node.0 ≡ Some x
      → Holds256 l.hasher (take l.at (contents_of (Image.bytes (g.T.Viewed.image l.image)) x));
}

abbrev pub decreases-loop-at : goal.decreases-loop-at
decreases-loop-at g l = l.size - l.at
