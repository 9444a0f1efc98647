use Rattle.std.proofs.Common.{◌≡◌, ◌++◌, filter, map}
use Rattle.build_commands.specs.Laying.{made, setting_by, sets, settings}
use Rattle.build_commands.specs.Lists.{setting_of}
use Rattle.build_commands.specs.Overlay.{AreInOrder}
use Rattle.build_commands.proofs.laying.divided.Given as goal

abbrev pub invariant-loop-file : goal.invariant-loop-file
invariant-loop-file l = record {
  next : (goal.iterator-loop-file).can_next l.file-iterator;
  finite : (goal.iterator-loop-file).is_finite l.file-iterator;
  made : AreInOrder l.found
      → l.made.items ++ made l.found l.file-iterator.rest.items ≡ made l.found l.fn.listed.files.items;
  settings : AreInOrder l.found
      → map setting_of l.changes.items ++ map setting_by (filter (sets l.found) l.file-iterator.rest.items)
      ≡ settings l.found l.fn.listed;
}
