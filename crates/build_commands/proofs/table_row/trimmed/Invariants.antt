use Rattle.std.proofs.Common.{◌≡◌, ◌≤◌, length, take}
use Rattle.build_commands.specs.TableRow.{trimmed}
use Rattle.build_commands.proofs.table_row.trimmed.Given as goal

abbrev pub invariant-loop-end : goal.invariant-loop-end
invariant-loop-end l = record {
  fits : l.end ≤ length l.path;
  same : trimmed (take l.end l.path) ≡ trimmed l.path;
}

abbrev pub decreases-loop-end : goal.decreases-loop-end
decreases-loop-end l = l.end
