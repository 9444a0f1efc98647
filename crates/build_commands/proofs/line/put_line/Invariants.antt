use Rattle.std.proofs.Common.{take}
use Rattle.rom_fields.specs.Written.{Puts, sink}
use Rattle.build_commands.specs.Lines.{line_text}
use Rattle.build_commands.proofs.line.put_line.Given as goal

abbrev pub invariant-loop-part : goal.invariant-loop-part
invariant-loop-part g l = Puts (sink (g.W.ByteWrite.output l.fn.w) l.fn.failed)
    (sink (g.W.ByteWrite.output l.w) l.failed) (line_text (take l.part-index l.line))
