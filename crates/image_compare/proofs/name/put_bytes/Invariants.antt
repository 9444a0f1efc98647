use Rattle.std.proofs.Common.{take}
use Rattle.rom_fields.specs.Written.{Puts, sink}
use Rattle.image_compare.specs.Digests.{shown_bytes}
use Rattle.image_compare.proofs.name.put_bytes.Given as goal

abbrev pub invariant-loop-byte : goal.invariant-loop-byte
invariant-loop-byte g l = Puts (sink (g.W.ByteWrite.output l.fn.w) l.fn.failed)
    (sink (g.W.ByteWrite.output l.w) l.failed) (shown_bytes (take l.byte-index l.name))
