use Rattle.std.proofs.Common.{take}
use Rattle.std.specs.List.{All}
use Rattle.build_commands.specs.Noting.{AreNoted}
use Rattle.build_commands.specs.Overlay.{AreInOrder}
use Rattle.build_commands.specs.Rights.{HasFile}
use Rattle.build_commands.proofs.rights.notes_of.Given as goal

abbrev pub invariant-loop-change : goal.invariant-loop-change
invariant-loop-change l = record {
  noted : AreInOrder l.found → AreNoted l.found (take l.change-index l.changes) l.notes;
  there : AreInOrder l.found → All (HasFile l.found) (take l.change-index l.changes);
}
