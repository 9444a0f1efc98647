use Rattle.std.proofs.Common.{take}
use Rattle.std.specs.List.{flat_map}
use Rattle.rom_fields.specs.Written.{Puts, sink}
use Rattle.map_forms.specs.Xml.{xml_byte}
use Rattle.map_forms.proofs.xml.put_xml.Given as goal

abbrev pub invariant-loop-byte : goal.invariant-loop-byte
invariant-loop-byte g l = Puts (sink (g.W.ByteWrite.output l.fn.w) l.fn.failed)
    (sink (g.W.ByteWrite.output l.w) l.failed) (flat_map xml_byte (take l.byte-index l.text))
