use Rattle.std.proofs.Common.{List, sym, subst, refl}
use Rattle.std.specs.List.{All}
use Rattle.rom_fields.specs.Extents.{OverlapsAt, IsLeastOf}
use Rattle.record_forest.specs.declared.reference.Row.{Row}
use Rattle.romfs_format.specs.Record.{IsSound}
use Rattle.romfs_format.specs.Tree.{extents_of}
use Rattle.record_forest.specs.Sweep.{IsLeastRowFault}
use Rattle.romfs_image.specs.Phases.{overlap, IsWellNamed, IsNameFault}
use Rattle.romfs_image.proofs.Composed.{well_or_fault, listed_sound}
use Rattle.romfs_image.proofs.phases.later_fault.Goals as goal

pub returns-in-Some-2 : goal.returns-in-Some-2
returns-in-Some-2 c =
    overlap c.in_default.ensures (subst
    (IsLeastOf (OverlapsAt (extents_of c.args.b.now.bytes.now c.args.b.now.root c.args.rows.now))) c.in-Some-2.is
    c.in_ok-at.ensures) refl

pub least_name_fault-requires-clause-listed : goal.least_name_fault-requires-clause-listed
least_name_fault-requires-clause-listed c =
    subst (All (λ (x : Row). IsSound c.args.b.now.bytes.now c.args.b.now.root x.offset)) (sym c.listed.ensures)
    (listed_sound c.args.b.now.bytes.now c.args.b.now.root c.args.rows.now c.requires.sound)

pub returns : goal.returns
returns c =
    well_or_fault c.args.b.now.bytes.now c.args.b.now.root c.args.most c.args.rows.now c.in_ok-named.named
    c.in_default.ensures
    (subst (IsLeastOf (OverlapsAt (extents_of c.args.b.now.bytes.now c.args.b.now.root c.args.rows.now)))
    c.in_default-2.is c.in_ok-at.ensures)
    (subst (λ (xs : List Row). IsLeastRowFault (IsWellNamed c.args.b.now.bytes.now c.args.b.now.root c.args.rows.now)
    (IsNameFault c.args.b.now.bytes.now c.args.b.now.root c.args.rows.now) xs c.in_ok-named.named) c.listed.ensures
    c.in_ok-named.ensures)
