use Rattle.std.proofs.Common.{take}
use Rattle.record_forest.specs.Sweep.{IsLeastRowFault}
use Rattle.romfs_image.specs.Phases.{IsNameFault, IsWellNamed}
use Rattle.romfs_image.proofs.names.least_name_fault.Given as goal

abbrev pub invariant-loop-i : goal.invariant-loop-i
invariant-loop-i l = IsLeastRowFault (IsWellNamed l.b.bytes.now l.b.root l.all)
    (IsNameFault l.b.bytes.now l.b.root l.all) (take l.i l.listed) l.noted
