use Rattle.std.proofs.Common.{◌≡◌, map}
use Rattle.build_commands.specs.Foreseen.{told}
use Rattle.build_commands.proofs.Least.{IsLeastOfTo}
use Rattle.build_commands.proofs.warnings.least_of.Given as goal

abbrev pub invariant-loop-warning : goal.invariant-loop-warning
invariant-loop-warning l = record {
  number : l.number ≡ l.warning-index;
  least : IsLeastOfTo (map told l.found) l.warning-index l.least;
}
