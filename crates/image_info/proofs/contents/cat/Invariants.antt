use Rattle.std.proofs.Common.{◌≡◌, ◌-◌, ◌≤◌, Some, take}
use Rattle.std.specs.Io.KnownBytes.{Appends}
use Rattle.rom_tree.specs.Tree.{Node}
use Rattle.rom_tree.specs.Image.{Image, image_node, contents_of}
use Rattle.image_info.proofs.contents.cat.Given as goal

abbrev pub invariant-loop-at : goal.invariant-loop-at
invariant-loop-at g l = record {
  within : l.at ≤ l.size;
  written : (x : Node) → image_node (g.T.Viewed.image l.image) l.node.0 ≡ Some x
      → Appends (g.W.ByteWrite.output l.fn.w).contents (g.W.ByteWrite.output l.w).contents
      (take l.at (contents_of (Image.bytes (g.T.Viewed.image l.image)) x));
  quiet : (g.W.ByteWrite.output l.w).failures ≡ (g.W.ByteWrite.output l.fn.w).failures;
}

abbrev pub decreases-loop-at : goal.decreases-loop-at
decreases-loop-at g l = l.size - l.at
