use Rattle.std.proofs.Common.{take}
use Rattle.record_forest.specs.Sweep.{IsLeastRowFault}
use Rattle.cramfs_image.specs.Phases.{IsNameFault, IsWellNamed}
use Rattle.cramfs_image.proofs.Lasts.{HaveLast}
use Rattle.cramfs_image.proofs.names.least_name_fault.Given as goal

abbrev pub invariant-loop-i : goal.invariant-loop-i
invariant-loop-i l = record {
  last : HaveLast l.b.order l.b.bytes.now l.last_names (take l.i l.rows);
  noted : IsLeastRowFault (IsWellNamed l.b.order l.b.bytes.now) (IsNameFault l.b.order l.b.bytes.now)
      (take l.i l.rows) l.noted;
}
