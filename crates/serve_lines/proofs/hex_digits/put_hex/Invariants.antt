use Rattle.std.proofs.Common.{◌≡◌, ◌++◌, List, ℕ, length}
use Rattle.rom_fields.specs.Written.{Puts, sink}
use Rattle.hex.specs.Hex.{encode_lower}
use Rattle.serve_lines.proofs.hex_digits.put_hex.Given as goal

abbrev pub invariant-loop-rest : goal.invariant-loop-rest
invariant-loop-rest g l = record {
  done : List ℕ;
  puts : Puts (sink (g.W.ByteWrite.output l.fn.w) l.fn.failed) (sink (g.W.ByteWrite.output l.w) l.failed) done;
  rest : done ++ encode_lower l.rest ≡ encode_lower l.bytes;
}

abbrev pub decreases-loop-rest : goal.decreases-loop-rest
decreases-loop-rest g l = length l.rest
