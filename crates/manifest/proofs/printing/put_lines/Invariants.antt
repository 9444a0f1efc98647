use Rattle.std.proofs.Common.{map, take}
use Rattle.rom_fields.specs.Written.{Puts, sink}
use Rattle.manifest.specs.Printed.{lines_text}
use Rattle.manifest.specs.Entries.{line_of}
use Rattle.manifest.proofs.printing.put_lines.Given as goal

abbrev pub invariant-loop-e : goal.invariant-loop-e
invariant-loop-e g l = Puts (sink (g.W.ByteWrite.output l.fn.w) l.fn.failed) (sink (g.W.ByteWrite.output l.w) l.failed)
    (lines_text (map line_of (take l.e-index l.entries)))
