use Rattle.std.proofs.Common.{◌≡◌, ℕ, ◌-◌, ◌<◌, List, Some, length}
use Rattle.rom_tree.specs.Frames.{IsFrame, left}
use Rattle.rom_tree.specs.Image.{image_node}
use Rattle.rom_tree.specs.Names.{Name}
use Rattle.rom_tree.specs.Tree.{Node, entry_count}
use Rattle.image_check.specs.Any.{any_view}
use Rattle.image_compare.specs.Rows.{HasRows, frame_of}
use Rattle.image_compare.proofs.Listed.{Collected}
use Rattle.image_compare.proofs.rows.+collect.Given as goal

-- the names so far, and those that are left
abbrev pub invariant-loop-entry : goal.invariant-loop-entry
invariant-loop-entry l = record {
  frame : IsFrame (any_view l.image) l.above (frame_of l.node l.cursor.0);
  so_far : (ws : List (List ℕ)) (ns : List Name) (x : Node) → HasRows (any_view l.image) l.fn.found ws ns
      → l.directory < length ws → image_node (any_view l.image) l.node.0 ≡ Some x
      → Collected (any_view l.image) l.found ws ns l.directory (frame_of l.node l.cursor.0) x;
}

abbrev pub decreases-loop-entry : goal.decreases-loop-entry
decreases-loop-entry l = entry_count (left (any_view l.image) (frame_of l.node l.cursor.0))

abbrev pub decreases-collect : goal.decreases-collect
decreases-collect l = 65 - l.above
