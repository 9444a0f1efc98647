use Rattle.std.proofs.Common.{◌≡◌, drop, take}
use Rattle.build_commands.specs.DeviceTable.{IsMade, ancestors, ancestors_from, table, with_parents}
use Rattle.build_commands.specs.Overlay.{AreInOrder}
use Rattle.build_commands.specs.TableRow.{row_view}
use Rattle.build_commands.proofs.device_table.add_parents.Given as goal

abbrev pub invariant-loop-at : goal.invariant-loop-at
invariant-loop-at l = record {
  table : AreInOrder l.found
      → with_parents l.found (row_view l.row) (table l.made.listing)
      (ancestors_from (take l.at l.row.path.now) (drop l.at l.row.path.now))
      ≡ with_parents l.found (row_view l.row) (table l.fn.made.listing) (ancestors l.row.path.now);
  made : IsMade l.made;
}
