use Rattle.std.proofs.Common.{◌≡◌, ◌-◌}
use Rattle.cramfs_format.specs.Inode.{list_end}
use Rattle.cramfs_format.specs.Tree.{entries_at}
use Rattle.cramfs_format.specs.Made.{grow, list_at}
use Rattle.cramfs_format.proofs.Trees.{IsList}
use Rattle.rom_tree.specs.Image.{find_entry}
use Rattle.cramfs_image.proofs.image.CramfsTreeImage.lookup.Given as goal

abbrev pub invariant-loop-at : goal.invariant-loop-at
invariant-loop-at l = record {
  list : IsList l.self.accessible.order l.self.accessible.bytes.now l.self.references
      (list_end l.self.accessible.order l.self.accessible.bytes.now l.fn.d.0) l.at;
  same : find_entry (entries_at l.self.accessible.order l.self.accessible.bytes.now
      (list_at l.self.accessible.order l.self.accessible.bytes.now l.self.references l.fn.d.0)) l.name
      ≡ find_entry (entries_at l.self.accessible.order l.self.accessible.bytes.now
      (grow l.self.references l.self.accessible.order l.self.accessible.bytes.now
      (list_end l.self.accessible.order l.self.accessible.bytes.now l.fn.d.0) l.at)) l.name;
}

abbrev pub decreases-loop-at : goal.decreases-loop-at
decreases-loop-at l = l.end - l.at
