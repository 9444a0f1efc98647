use Rattle.std.proofs.Common.{take}
use Rattle.std.specs.List.{flat_map}
use Rattle.rom_fields.specs.Written.{Puts, sink}
use Rattle.map_forms.specs.Names.{code_of}
use Rattle.map_forms.proofs.names.put_identifier.Given as goal

abbrev pub invariant-loop-byte : goal.invariant-loop-byte
invariant-loop-byte g l = Puts (sink (g.W.ByteWrite.output l.fn.w) l.fn.failed)
    (sink (g.W.ByteWrite.output l.w) l.failed) (flat_map code_of (take l.byte-index l.path))
