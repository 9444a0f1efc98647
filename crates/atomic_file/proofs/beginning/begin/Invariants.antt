use Rattle.std.proofs.Common.{ℕ, ◌≤◌, ◌<◌, ◌+◌, ◌*◌}
use Rattle.atomic_file.specs.Log.{Create, Refused, Knows}
use Rattle.atomic_file.specs.Runs.{Adds, IsTry}
use Rattle.atomic_file.proofs.beginning.begin.Given as goal

abbrev pub invariant-loop-name : goal.invariant-loop-name
invariant-loop-name g l = record {
  within : l.name ≤ l.fn.names.end;
  room : 3 * l.fn.names.end ≤ g.D.Directory.room l.directory + 3 * l.name;
  spent : g.D.Directory.room l.initial.directory + 3 * l.fn.names.first ≤ g.D.Directory.room l.directory + 3 * l.name;
  run : Adds (IsTry l.fn.names) (g.D.Directory.log l.initial.directory) (g.D.Directory.log l.directory);
  taken : (n : ℕ) → l.fn.names.first ≤ n → n < l.name
      → Knows (Refused (Create n)) (g.D.Directory.log l.initial.directory) (g.D.Directory.log l.directory);
}
