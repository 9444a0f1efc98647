use Rattle.std.proofs.Common.{◌≤◌, ◌+◌}
use Rattle.atomic_file.specs.Runs.{Adds, IsOther}
use Rattle.atomic_file.proofs.beginning.clear_following.Given as goal

abbrev pub invariant-loop-following : goal.invariant-loop-following
invariant-loop-following g l = record {
  room : l.fn.names.end ≤ g.D.Directory.room l.directory + l.following;
  spent : g.D.Directory.room l.initial.directory + (l.fn.name + 1) ≤ g.D.Directory.room l.directory + l.following;
  run : Adds (IsOther l.fn.names l.name) (g.D.Directory.log l.initial.directory) (g.D.Directory.log l.directory);
}
