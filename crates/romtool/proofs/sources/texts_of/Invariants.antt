use Rattle.std.proofs.Common.{◌≡◌, map, take}
use Rattle.romtool.proofs.sources.texts_of.Given as goal

abbrev pub invariant-loop-bytes : goal.invariant-loop-bytes
invariant-loop-bytes l = map (λ n. n.now) l.names.items ≡ map (λ j. j.items) (take l.bytes-index l.joined)
