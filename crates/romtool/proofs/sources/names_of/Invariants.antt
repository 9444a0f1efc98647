use Rattle.std.proofs.Common.{◌≡◌, map, take}
use Rattle.romtool.proofs.sources.names_of.Given as goal

abbrev pub invariant-loop-source : goal.invariant-loop-source
invariant-loop-source l = map (λ n. n.now) l.names.items ≡ take l.source-index l.sources
