use Rattle.std.proofs.Common.{◌≡◌, map, take}
use Rattle.romtool.proofs.sources.sizes_of.Given as goal

abbrev pub invariant-loop-stamp : goal.invariant-loop-stamp
invariant-loop-stamp l = l.sizes.items ≡ map (λ s. s.len) (take l.stamp-index l.stamps)
