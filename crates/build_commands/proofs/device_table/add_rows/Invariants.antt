use Rattle.std.proofs.Common.{◌≡◌, drop, map}
use Rattle.build_commands.specs.DeviceTable.{IsMade, nothing, table, with_rows}
use Rattle.build_commands.specs.Overlay.{AreInOrder}
use Rattle.build_commands.specs.TableRow.{row_view}
use Rattle.build_commands.proofs.device_table.add_rows.Given as goal

abbrev pub invariant-loop-row : goal.invariant-loop-row
invariant-loop-row l = record {
  table : AreInOrder l.found
      → with_rows l.found (table l.made.listing) (map row_view (drop l.row-index l.rows))
      ≡ with_rows l.found nothing (map row_view l.rows);
  made : IsMade l.made;
}
