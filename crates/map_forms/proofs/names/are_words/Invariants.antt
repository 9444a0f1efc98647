use Rattle.std.proofs.Common.{◌≡◌, drop}
use Rattle.map_forms.specs.Names.{are_words}
use Rattle.map_forms.proofs.names.are_words.Given as goal

abbrev pub invariant-loop-byte : goal.invariant-loop-byte
invariant-loop-byte l = are_words (drop l.byte-index l.bytes) ≡ are_words l.bytes
