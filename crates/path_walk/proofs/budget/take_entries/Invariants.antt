use Rattle.std.proofs.Common.{◌≡◌, ◌+◌, ℕ, Some}
use Rattle.rom_tree.specs.Tree.{Node, entries_of, drop_entries}
use Rattle.rom_tree.specs.Image.{image_node}
use Rattle.path_walk.specs.Compared.{entries_until}
use Rattle.path_walk.proofs.budget.take_entries.Given as goal

abbrev pub invariant-loop-entry : goal.invariant-loop-entry
invariant-loop-entry g l = record {
  listed : Node;
  node : image_node (g.T.Viewed.image l.image) l.directory.0 ≡ Some listed;
  index : ℕ;
  cursor : (g.T.Viewed.image l.image).cursor_index l.directory.0 l.cursor.0 ≡ Some index;
  left : l.budget + entries_until (entries_of listed) l.name
      ≡ l.fn.budget + entries_until (drop_entries index (entries_of listed)) l.name;
}

abbrev pub decreases-loop-entry : goal.decreases-loop-entry
decreases-loop-entry g l = l.budget
