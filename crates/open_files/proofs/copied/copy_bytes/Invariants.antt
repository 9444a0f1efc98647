use Rattle.std.proofs.Common.{◌≡◌, ◌+◌, ◌-◌, ◌≤◌, ◌++◌, Some, length, take, drop}
use Rattle.rom_tree.specs.Tree.{Node, places_of}
use Rattle.rom_tree.specs.Image.{image_node}
use Rattle.open_files.specs.Lending.{bytes_of}
use Rattle.open_files.proofs.copied.copy_bytes.Given as goal

abbrev pub invariant-loop-done : goal.invariant-loop-done
invariant-loop-done g l = record {
  fits : l.done ≤ length l.fn.buf;
  within : l.at + l.done ≤ l.size;
  same : length l.buf ≡ length l.fn.buf;
  bytes : (x : Node) → image_node (g.T.Viewed.image l.image) l.node.0 ≡ Some x
      → l.buf ≡ bytes_of (g.T.Viewed.image l.image).bytes (take l.done (drop l.at (places_of x)))
      ++ drop l.done l.fn.buf;
}

abbrev pub decreases-loop-done : goal.decreases-loop-done
decreases-loop-done g l = length l.fn.buf - l.done
