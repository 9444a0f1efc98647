use Rattle.std.proofs.Common.{◌≡◌, ℕ, List, sym, subst, ◌∙◌}
use Rattle.record_forest.specs.declared.reference.Row.{Row}
use Rattle.rom_fields.specs.Faults.{fault_answer}
use Rattle.record_forest.specs.Answers.{traversal_answer}
use Rattle.rom_tree.proofs.Answered.{err_by}
use Rattle.romfs_format.specs.Faults.{whole}
use Rattle.romfs_format.proofs.Lawful.{references_lawful}
use Rattle.romfs_image.specs.Checked.{IsRefused, IsLeastAnswer}
use Rattle.romfs_image.specs.Phases.{AreWell}
use Rattle.romfs_image.proofs.Trees.{root_positive, root_live, rows_sound, rows_some}
use Rattle.romfs_image.proofs.Faultless.{least_refuses}
use Rattle.romfs_image.proofs.Least.{super_faultless, least_walk, least_after, faultless}
use Rattle.romfs_image.proofs.Shallow.{shallow}
use Rattle.romfs_image.proofs.Composed.{tree_of_well}
use Rattle.romfs_image.proofs.image.Romfs.check.Goals as goal

-- what the later phases found, said of the forest's rows
moved : (b : List ℕ) (r m n : ℕ) (xs ys : List Row) → m ≡ n → xs ≡ ys → AreWell b r m xs → AreWell b r n ys
moved b r m n xs ys e f w = subst (λ (v : List Row). AreWell b r n v) f (subst (λ (v : ℕ). AreWell b r v xs) e w)

pub returns-in_err-b-clause-fault : goal.returns-in_err-b-clause-fault
returns-in_err-b-clause-fault c = err_by c.from_residual.result c.from_residual.ensures.1 (λ e is.
    subst (IsRefused c.args.bytes.now c.args.limits) (sym is)
    (least_refuses c.args.bytes.now c.args.limits (fault_answer c.in_err-b.field-0.0)
    (whole c.in_err-b.ensures.fault)))

pub traverse-requires : goal.traverse-requires
traverse-requires c = references_lawful c.in_ok-b.b.bytes.now c.in_ok-b.b.root (root_positive c.in_ok-b.ensures.ok)

pub returns-in_err-rows-clause-fault : goal.returns-in_err-rows-clause-fault
returns-in_err-rows-clause-fault c =
    err_by c.from_residual-in_err-rows.result c.from_residual-in_err-rows.ensures.1 (λ e is.
    subst (IsRefused c.args.bytes.now c.args.limits) (sym is)
    (least_refuses c.args.bytes.now c.args.limits (traversal_answer c.in_err-rows.field-0.0)
    (least_walk c.in_ok-b.ensures.ok c.args.limits c.in_err-rows.field-0.0
    (root_positive c.in_ok-b.ensures.ok) c.in_err-rows.ensures.fault)))

pub returns-in_err-rows-clause-least : goal.returns-in_err-rows-clause-least
returns-in_err-rows-clause-least c =
    err_by c.from_residual-in_err-rows.result c.from_residual-in_err-rows.ensures.1 (λ e is.
    subst (IsLeastAnswer c.args.bytes.now c.args.limits) (sym is)
    (least_walk c.in_ok-b.ensures.ok c.args.limits c.in_err-rows.field-0.0
    (root_positive c.in_ok-b.ensures.ok) c.in_err-rows.ensures.fault))

pub later_fault-requires-clause-sound : goal.later_fault-requires-clause-sound
later_fault-requires-clause-sound c =
    let w = c.in_ok-rows.ensures.ok in
    rows_sound c.in_ok-b.ensures.ok c.args.limits.references w.0 c.as_slice-list.result.now
    (c.as_slice-list.ensures.value ∙ w.1) w.2

pub later_fault-requires-clause-some : goal.later_fault-requires-clause-some
later_fault-requires-clause-some c =
    let w = c.in_ok-rows.ensures.ok in
    rows_some c.in_ok-b.ensures.ok c.args.limits.references w.0 c.as_slice-list.result.now
    (c.as_slice-list.ensures.value ∙ w.1) w.2

pub returns-in_err-later_fault-clause-least : goal.returns-in_err-later_fault-clause-least
returns-in_err-later_fault-clause-least c =
    err_by c.from_residual-in_err-later_fault.result c.from_residual-in_err-later_fault.ensures.1 (λ e is.
    subst (IsLeastAnswer c.args.bytes.now c.args.limits) (sym is) (super_faultless c.in_ok-b.ensures.ok))

pub opened-requires-clause-sound : goal.opened-requires-clause-sound
opened-requires-clause-sound c =
    let w = c.in_ok-rows.ensures.ok in
    rows_sound c.in_ok-b.ensures.ok c.args.limits.references w.0 c.as_slice-list.result.now
    (c.as_slice-list.ensures.value ∙ w.1) w.2

pub opened-requires-clause-tree : goal.opened-requires-clause-tree
opened-requires-clause-tree c =
    let w = c.in_ok-rows.ensures.ok in
    let rows = c.as_slice-list.ensures.value ∙ w.1 in (
      w.0,
      rows,
      tree_of_well _ _ c.args.limits.references c.args.limits.depth w.0 (root_live c.in_ok-b.ensures.ok) w.2
          (moved _ _ _ _ _ _ c.min.ensures rows (rw c.in-None.is at c.in_ok-later_fault.ensures)),
    )

pub returns-in-None-clause-shallow : goal.returns-in-None-clause-shallow
returns-in-None-clause-shallow c = shallow c.opened.ensures

pub returns-in-None-clause-clean : goal.returns-in-None-clause-clean
returns-in-None-clause-clean c =
    let w = c.in_ok-rows.ensures.ok in
    faultless c.in_ok-b.ensures.ok c.args.limits c.min.result w.0 c.as_slice-list.result.now
    (root_positive c.in_ok-b.ensures.ok) c.min.ensures (c.as_slice-list.ensures.value ∙ w.1) w.2
    (rw c.in-None.is at c.in_ok-later_fault.ensures)

pub returns-clause-fault : goal.returns-clause-fault
returns-clause-fault c =
    let w = c.in_ok-rows.ensures.ok in
    subst (IsRefused c.args.bytes.now c.args.limits) (sym c.into.ensures)
    (least_refuses c.args.bytes.now c.args.limits (fault_answer c.in-Some.fault)
    (least_after c.in_ok-b.ensures.ok c.args.limits c.min.result w.0 c.as_slice-list.result.now c.in-Some.fault
    (root_positive c.in_ok-b.ensures.ok) c.min.ensures (c.as_slice-list.ensures.value ∙ w.1) w.2
    (rw c.in-Some.is at c.in_ok-later_fault.ensures)))

pub returns-clause-least : goal.returns-clause-least
returns-clause-least c =
    let w = c.in_ok-rows.ensures.ok in
    subst (IsLeastAnswer c.args.bytes.now c.args.limits) (sym c.into.ensures)
    (least_after c.in_ok-b.ensures.ok c.args.limits c.min.result w.0 c.as_slice-list.result.now c.in-Some.fault
    (root_positive c.in_ok-b.ensures.ok) c.min.ensures (c.as_slice-list.ensures.value ∙ w.1) w.2
    (rw c.in-Some.is at c.in_ok-later_fault.ensures))
