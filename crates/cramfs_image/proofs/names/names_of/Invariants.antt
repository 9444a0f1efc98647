use Rattle.std.proofs.Common.{take}
use Rattle.record_forest.specs.Listed.{AreNames}
use Rattle.cramfs_format.specs.Inode.{name_of}
use Rattle.cramfs_image.proofs.names.names_of.Given as goal

abbrev pub invariant-loop-index : goal.invariant-loop-index
invariant-loop-index l = AreNames (name_of l.b.order l.b.bytes.now) (take l.index l.rows) l.names.items
