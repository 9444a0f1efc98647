use Rattle.std.proofs.Common.{◌≡◌, ◌-◌}
use Rattle.build_commands.specs.DeviceTable.{IsMade, devices, table, with_devices}
use Rattle.build_commands.specs.TableRow.{row_view}
use Rattle.build_commands.proofs.device_table.add_devices.Given as goal

abbrev pub invariant-loop-step : goal.invariant-loop-step
invariant-loop-step l = record {
  table : with_devices (row_view l.row) l.node (table l.made.listing) l.step (devices (row_view l.row) - l.step)
      ≡ with_devices (row_view l.row) l.node (table l.fn.made.listing) 0 (devices (row_view l.row));
  made : IsMade l.made;
}
