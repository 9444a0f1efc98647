use Rattle.std.proofs.Common.{◌≡◌, Some}
use Rattle.rom_tree.specs.Tree.{Node, entries_of, entry_count}
use Rattle.rom_tree.specs.Image.{HasCursor, image_node}
use Rattle.image_check.specs.Any.{any_view}
use Rattle.rom_c.specs.Directories.{entries_after}
use Rattle.rom_c.specs.Linked.{has_entry}
use Rattle.rom_c.proofs.linked.has_entry.Given as goal

-- no entry before the cursor leads to the node
abbrev pub invariant-loop-entry : goal.invariant-loop-entry
invariant-loop-entry l = record {
  cursor : HasCursor (any_view l.image) l.directory.0 l.cursor.0;
  none : (x : Node) → image_node (any_view l.image) l.directory.0 ≡ Some x
      → has_entry l.node.0 (entries_after (any_view l.image) l.directory.0 l.cursor.0)
      ≡ has_entry l.node.0 (entries_of x);
}

abbrev pub decreases-loop-entry : goal.decreases-loop-entry
decreases-loop-entry l = entry_count (entries_after (any_view l.image) l.directory.0 l.cursor.0)
