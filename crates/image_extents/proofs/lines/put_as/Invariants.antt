use Rattle.std.proofs.Common.{take}
use Rattle.rom_fields.specs.Written.{Puts, sink}
use Rattle.image_extents.specs.Lines.{lines_as}
use Rattle.image_extents.proofs.lines.put_as.Given as goal

abbrev pub invariant-loop-x : goal.invariant-loop-x
invariant-loop-x g l = Puts (sink (g.W.ByteWrite.output l.fn.w) l.fn.failed) (sink (g.W.ByteWrite.output l.w) l.failed)
    (lines_as l.base l.found l.at (take l.x-index l.run) l.number)
