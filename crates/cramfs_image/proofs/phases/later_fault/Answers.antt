use Rattle.std.proofs.Common.{List, subst, refl}
use Rattle.rom_fields.specs.Extents.{OverlapsAt, IsLeastOf}
use Rattle.record_forest.specs.declared.reference.Row.{Row}
use Rattle.cramfs_format.specs.Tree.{extents_of}
use Rattle.record_forest.specs.Sweep.{IsLeastRowFault}
use Rattle.cramfs_image.specs.Phases.{of_overlap, IsTooDeep, IsShallow, IsWellNamed, IsNameFault}
use Rattle.cramfs_image.proofs.Composed.{well_or_fault}
use Rattle.cramfs_image.proofs.phases.later_fault.Goals as goal

pub returns-in-Some-2 : goal.returns-in-Some-2
returns-in-Some-2 c =
    of_overlap (subst (λ (xs : List Row). IsLeastRowFault
    (IsShallow c.args.b.now.order c.args.b.now.bytes.now c.args.most)
    (IsTooDeep c.args.b.now.order c.args.b.now.bytes.now c.args.most) xs _) c.below_root-below.ensures
    c.in_default.ensures)
    (subst (IsLeastOf (OverlapsAt (extents_of c.args.b.now.order c.args.b.now.bytes.now c.args.rows.now)))
    c.in-Some-2.is c.in_ok-at.ensures) refl

pub returns : goal.returns
returns c =
    well_or_fault c.args.b.now.order c.args.b.now.bytes.now c.args.most c.args.rows.now c.in_ok-named.named
    (subst (λ (xs : List Row). IsLeastRowFault (IsShallow c.args.b.now.order c.args.b.now.bytes.now c.args.most)
    (IsTooDeep c.args.b.now.order c.args.b.now.bytes.now c.args.most) xs _) c.below_root-below.ensures
    c.in_default.ensures)
    (subst (IsLeastOf (OverlapsAt (extents_of c.args.b.now.order c.args.b.now.bytes.now c.args.rows.now)))
    c.in_default-2.is c.in_ok-at.ensures)
    (subst (λ (xs : List Row). IsLeastRowFault (IsWellNamed c.args.b.now.order c.args.b.now.bytes.now)
    (IsNameFault c.args.b.now.order c.args.b.now.bytes.now) xs c.in_ok-named.named) c.below_root-below.ensures
    c.in_ok-named.ensures)
