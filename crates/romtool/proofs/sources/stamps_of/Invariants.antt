use Rattle.std.proofs.Common.{◌≡◌, length}
use Rattle.romtool.proofs.sources.stamps_of.Given as goal

abbrev pub invariant-loop-name : goal.invariant-loop-name
invariant-loop-name l = length l.stamps.items ≡ l.name-index
