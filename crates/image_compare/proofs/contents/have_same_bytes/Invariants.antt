use Rattle.std.proofs.Common.{◌≡◌, ◌-◌, ◌≤◌, Some, take}
use Rattle.rom_tree.specs.Tree.{Node}
use Rattle.rom_tree.specs.Image.{Image, image_node, contents_of}
use Rattle.image_compare.proofs.contents.have_same_bytes.Given as goal

-- the bytes before `at` are the same
abbrev pub invariant-loop-at : goal.invariant-loop-at
invariant-loop-at g l = record {
  within : l.at ≤ l.size;
  same : (p q : Node) → image_node (g.T.Viewed.image l.old) l.x.0 ≡ Some p
      → image_node (g.T.Viewed.image l.new) l.y.0 ≡ Some q
      → take l.at (contents_of (Image.bytes (g.T.Viewed.image l.old)) p)
      ≡ take l.at (contents_of (Image.bytes (g.T.Viewed.image l.new)) q);
}

abbrev pub decreases-loop-at : goal.decreases-loop-at
decreases-loop-at g l = l.size - l.at
