use Rattle.std.proofs.Common.{◌≡◌, drop, take}
use Rattle.std.specs.List.{list_any}
use Rattle.build_commands.specs.DeviceTable.{is_set_below, table, with_settings}
use Rattle.build_commands.specs.TableRow.{row_view}
use Rattle.build_commands.proofs.device_table.set_found.Given as goal

abbrev pub invariant-loop-file : goal.invariant-loop-file
invariant-loop-file l = record {
  table : with_settings (row_view l.row) (table l.listing) (drop l.file-index l.found)
      ≡ with_settings (row_view l.row) (table l.fn.listing) l.found;
  there : l.is_there ≡ list_any (is_set_below l.row.path.now) (take l.file-index l.found);
  files : l.listing.files ≡ l.fn.listing.files;
}
