use Rattle.std.proofs.Common.{◌≡◌, ◌<◌, ℕ, drop, get_or, length}
use Rattle.build_commands.specs.Programs.{spot_from, spot_in}
use Rattle.build_commands.specs.declared.programs.Spot.{Spot}
use Rattle.build_commands.proofs.programs.spots_of.Given as goal

abbrev pub invariant-loop-index : goal.invariant-loop-index
invariant-loop-index l = record {
  size : length l.spots.items ≡ l.count;
  spots : (file : ℕ) (d : Spot) → file < l.count
      → spot_from file (get_or l.spots.items file d) (drop l.index l.plan.sections) ≡ spot_in file l.plan.sections;
}
