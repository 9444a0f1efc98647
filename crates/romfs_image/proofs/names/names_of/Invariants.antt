use Rattle.std.proofs.Common.{take}
use Rattle.record_forest.specs.Listed.{AreNames}
use Rattle.romfs_format.specs.Record.{name_of}
use Rattle.romfs_image.proofs.names.names_of.Given as goal

abbrev pub invariant-loop-index : goal.invariant-loop-index
invariant-loop-index l = AreNames (name_of l.b.bytes.now) (take l.index l.rows) l.names.items
