use Rattle.std.proofs.Common.{take}
use Rattle.manifest.specs.Printed.{lines_text}
use Rattle.rom_fields.specs.Written.{Puts, sink}
use Rattle.image_manifest.specs.Lines.{member_lines}
use Rattle.image_manifest.proofs.writing.put_members.Given as goal

-- the lines of the members so far were put
abbrev pub invariant-loop-index : goal.invariant-loop-index
invariant-loop-index g l =
    Puts (sink (g.W.ByteWrite.output l.fn.w) l.fn.failed) (sink (g.W.ByteWrite.output l.w) l.failed)
    (lines_text (take l.index (member_lines (g.T.Viewed.image l.image) l.rules)))
