use Rattle.std.proofs.Common.{◌≡◌, ◌-◌, ◌≤◌, ◌<◌, Some, ℕ}
use Rattle.std.specs.Prelude.{slice_index}
use Rattle.rom_tree.specs.Tree.{Node, places_of}
use Rattle.rom_tree.specs.Image.{image_node}
use Rattle.image_compare.proofs.holder.has_place.Given as goal

-- no byte before `at` lies there
abbrev pub invariant-loop-at : goal.invariant-loop-at
invariant-loop-at g l = record {
  within : l.at ≤ l.size;
  none : (x : Node) → image_node (g.T.Viewed.image l.image) l.node.0 ≡ Some x
      → (k : ℕ) → k < l.at → slice_index (places_of x) k ≡ l.place → ⊥;
}

abbrev pub decreases-loop-at : goal.decreases-loop-at
decreases-loop-at g l = l.size - l.at
