use Rattle.std.proofs.Common.{◌≡◌, ◌+◌}
use Rattle.rom_tree.specs.Tree.{entry_count}
use Rattle.rom_tree.specs.Image.{HasCursor}
use Rattle.image_check.specs.Any.{any_view}
use Rattle.rom_c.specs.Directories.{entries_after}
use Rattle.rom_c.proofs.directories.count_from.Given as goal

-- the entries that were counted, and those that are left
abbrev pub invariant-loop-entry : goal.invariant-loop-entry
invariant-loop-entry l = record {
  cursor : HasCursor (any_view l.image) l.directory.0 l.at.0;
  count : l.count + entry_count (entries_after (any_view l.image) l.directory.0 l.at.0)
      ≡ entry_count (entries_after (any_view l.image) l.directory.0 l.fn.cursor.0);
}

abbrev pub decreases-loop-entry : goal.decreases-loop-entry
decreases-loop-entry l = entry_count (entries_after (any_view l.image) l.directory.0 l.at.0)
