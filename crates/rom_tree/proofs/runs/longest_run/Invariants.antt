use Rattle.std.proofs.Common.{◌≡◌, ℕ, ◌+◌, ◌-◌, ◌<◌, ◌≤◌, Some, slice_index}
use Rattle.rom_tree.specs.Tree.{Node, places_of}
use Rattle.rom_tree.specs.Image.{image_node}
use Rattle.rom_tree.proofs.runs.longest_run.Given as goal

abbrev pub invariant-loop-len : goal.invariant-loop-len
invariant-loop-len g l = record {
  some : 0 < l.len;
  fits : l.len ≤ l.most;
  within : l.at + l.len ≤ l.size;
  row : (x : Node) → image_node (g.T.Viewed.image l.image) l.node.0 ≡ Some x → (k : ℕ) → k < l.len
      → slice_index (places_of x) (l.at + k) ≡ l.place + k;
}

abbrev pub decreases-loop-len : goal.decreases-loop-len
decreases-loop-len g l = l.most - l.len
