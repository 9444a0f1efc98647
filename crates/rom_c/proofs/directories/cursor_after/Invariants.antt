use Rattle.std.proofs.Common.{◌≡◌, ◌≤◌, Some}
use Rattle.rom_tree.specs.Tree.{Node, entries_of, entry_count}
use Rattle.rom_tree.specs.Image.{image_node}
use Rattle.image_check.specs.Any.{any_view}
use Rattle.rom_c.proofs.directories.cursor_after.Given as goal

-- so many entries were passed
abbrev pub invariant-loop-passed : goal.invariant-loop-passed
invariant-loop-passed l = record {
  index : (any_view l.image).cursor_index l.directory.0 l.cursor.0 ≡ Some l.passed;
  within : (x : Node) → image_node (any_view l.image) l.directory.0 ≡ Some x
      → l.passed ≤ entry_count (entries_of x);
}
