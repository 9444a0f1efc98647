use Rattle.std.proofs.Common.{take}
use Rattle.std.specs.List.{flat_map}
use Rattle.rom_fields.specs.Written.{Puts, sink}
use Rattle.map_forms.specs.Names.{text_byte}
use Rattle.map_forms.proofs.names.put_text.Given as goal

abbrev pub invariant-loop-byte : goal.invariant-loop-byte
invariant-loop-byte g l = Puts (sink (g.W.ByteWrite.output l.initial.w) l.initial.failed)
    (sink (g.W.ByteWrite.output l.w) l.failed) (flat_map text_byte (take l.byte-index l.bytes))
