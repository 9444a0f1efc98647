use Rattle.std.proofs.Common.{◌≡◌, ◌++◌, ◌-◌, length, None}
use Rattle.std.specs.Prelude.{slice_get}
use Rattle.build_commands.specs.DeviceTable.{shown_from}
use Rattle.build_commands.proofs.device_table.shown.Given as goal

abbrev pub invariant-loop-file : goal.invariant-loop-file
invariant-loop-file l = record {
  next : (goal.iterator-loop-file).can_next l.file-iterator;
  finite : (goal.iterator-loop-file).is_finite l.file-iterator;
  same : l.shown.items ++ shown_from (slice_get l.shown.items (length l.shown.items - 1)) l.file-iterator.rest.items
      ≡ shown_from None l.fn.files.items;
}
