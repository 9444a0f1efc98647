use Rattle.std.proofs.Common.{◌≡◌, take}
use Rattle.std.specs.List.{list_any}
use Rattle.build_commands.specs.DeviceTable.{is_set_below, set_below}
use Rattle.build_commands.specs.TableRow.{row_view}
use Rattle.build_commands.proofs.Mapped.{Mapping}
use Rattle.build_commands.proofs.device_table.set_made.Given as goal

abbrev pub invariant-loop-index : goal.invariant-loop-index
invariant-loop-index l = record {
  files : Mapping (λ j. set_below (row_view l.row)) l.fn.files l.files l.index;
  there : l.is_there ≡ list_any (is_set_below l.row.path.now) (take l.index l.fn.files);
}
