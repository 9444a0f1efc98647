use Rattle.std.proofs.Common.{[], take}
use Rattle.rom_fields.specs.Texts.{escaped}
use Rattle.rom_fields.specs.Written.{Puts, sink}
use Rattle.rom_tree.specs.Frames.{path_text}
use Rattle.rom_tree.proofs.path.put_frames.Given as goal

abbrev pub invariant-loop-frame : goal.invariant-loop-frame
invariant-loop-frame g l = Puts (sink (g.W.ByteWrite.output l.fn.w) l.fn.failed)
    (sink (g.W.ByteWrite.output l.w) l.failed) (escaped (path_text [] (take l.frame-index l.frames)))
