use Rattle.std.proofs.Common.{map, take}
use Rattle.rom_fields.specs.Written.{Puts, sink}
use Rattle.build_commands.specs.Scanned.{scan_text}
use Rattle.build_commands.specs.Seen.{entry_of}
use Rattle.build_commands.proofs.scanning.put_all.Given as goal

abbrev pub invariant-loop-one : goal.invariant-loop-one
invariant-loop-one g l = Puts (sink (g.W.ByteWrite.output l.fn.w) l.fn.failed)
    (sink (g.W.ByteWrite.output l.w) l.failed) (scan_text (map (entry_of l.front) (take l.one-index l.found)))
