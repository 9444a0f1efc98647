use Rattle.std.proofs.Common.{◌≡◌, drop}
use Rattle.image_extents.specs.Lines.{all_zero}
use Rattle.image_extents.proofs.lines.is_zero.Given as goal

abbrev pub invariant-loop-byte : goal.invariant-loop-byte
invariant-loop-byte l = all_zero (drop l.byte-index l.bytes) ≡ all_zero l.bytes
