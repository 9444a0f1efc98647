use Rattle.std.proofs.Common.{◌≡◌, ℕ, Some}
use Rattle.romfs_format.specs.Made.{grow, list_at, index_at, cursor_of}
use Rattle.record_forest.specs.Forest.{count}
use Rattle.romfs_format.proofs.Trees.{IsList}
use Rattle.romfs_image.proofs.image.RomfsTreeImage.entry.Given as goal

abbrev pub invariant-loop-at : goal.invariant-loop-at
invariant-loop-at l = record {
  list : IsList l.fn.self.accessible.bytes.now l.fn.self.accessible.root l.fn.self.references l.at;
  place : (i : ℕ) → cursor_of l.fn.self.accessible.bytes.now l.fn.self.accessible.root l.fn.self.references l.fn.d.0
      l.fn.c.0 ≡ Some i → index_at l.fn.self.accessible.bytes.now
      (list_at l.fn.self.accessible.bytes.now l.fn.self.accessible.root l.fn.self.references l.fn.d.0) l.at ≡ Some i;
}

abbrev pub decreases-loop-at : goal.decreases-loop-at
decreases-loop-at l = count (grow l.fn.self.references l.fn.self.accessible.bytes.now l.at)
