use Rattle.std.proofs.Common.{◌≡◌}
use Rattle.path_patterns.proofs.bytes.characters.Given as goal

abbrev pub invariant-loop-c : goal.invariant-loop-c
invariant-loop-c l = l.found.items ≡ l.yielded
