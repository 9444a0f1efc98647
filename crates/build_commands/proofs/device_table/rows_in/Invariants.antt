use Rattle.std.proofs.Common.{◌≡◌, ◌+◌, ◌≤◌, length}
use Rattle.manifest.specs.Texts.{pieces_after, weight}
use Rattle.build_commands.specs.DeviceTable.{rows_from, rows_of, rows_view}
use Rattle.build_commands.proofs.device_table.rows_in.Given as goal

abbrev pub invariant-loop-rest : goal.invariant-loop-rest
invariant-loop-rest l = record {
  reads : rows_from (rows_view l.rows) (l.number + 1) (pieces_after 10 l.rest) ≡ rows_of l.text;
  counts : l.number + weight l.rest ≤ length l.text + 1;
}

abbrev pub decreases-loop-rest : goal.decreases-loop-rest
decreases-loop-rest l = weight l.rest
