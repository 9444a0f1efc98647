use Rattle.std.proofs.Common.{take}
use Rattle.record_forest.specs.Sweep.{IsLeastRowFault}
use Rattle.cramfs_image.specs.Phases.{IsTooDeep, IsShallow}
use Rattle.cramfs_image.proofs.depth.least_too_deep.Given as goal

abbrev pub invariant-rows : goal.invariant-rows
invariant-rows l = IsLeastRowFault (IsShallow l.b.order l.b.bytes.now l.most) (IsTooDeep l.b.order l.b.bytes.now l.most)
    (take l.row-index l.rows) l.noted
