use Rattle.std.proofs.Common.{◌≡◌}
use Rattle.romfs_format.specs.Tree.{entries_at}
use Rattle.romfs_format.specs.Made.{grow, list_at}
use Rattle.record_forest.specs.Forest.{count}
use Rattle.romfs_format.proofs.Trees.{IsList}
use Rattle.rom_tree.specs.Image.{find_entry}
use Rattle.romfs_image.proofs.image.RomfsTreeImage.lookup.Given as goal

abbrev pub invariant-loop-at : goal.invariant-loop-at
invariant-loop-at l = record {
  list : IsList l.self.accessible.bytes.now l.self.accessible.root l.self.references l.at;
  same : find_entry (entries_at l.self.accessible.bytes.now
      (list_at l.self.accessible.bytes.now l.self.accessible.root l.self.references l.fn.d.0)) l.name
      ≡ find_entry (entries_at l.self.accessible.bytes.now
      (grow l.self.references l.self.accessible.bytes.now l.at)) l.name;
}

abbrev pub decreases-loop-at : goal.decreases-loop-at
decreases-loop-at l = count (grow l.self.references l.self.accessible.bytes.now l.at)
