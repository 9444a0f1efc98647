use Rattle.std.proofs.Common.{◌≡◌, ℕ, List, refl, sym, subst, ◌∙◌}
use Rattle.record_forest.specs.declared.reference.Row.{Row}
use Rattle.rom_fields.specs.Faults.{fault_answer}
use Rattle.record_forest.specs.Answers.{traversal_answer}
use Rattle.rom_tree.proofs.Answered.{err_by}
use Rattle.rom_tree.specs.Image.{Image}
use Rattle.rom_tree.specs.declared.types.Limits.{Limits}
use Rattle.rom_tree.specs.declared.types.Report.{Report}
use Rattle.cramfs_format.specs.declared.order.Order.{Order}
use Rattle.cramfs_format.specs.Faults.{whole, HasNoFault}
use Rattle.cramfs_format.specs.Superblock.{HasImageFault, order_of}
use Rattle.record_forest.specs.Faults.{IsNone}
use Rattle.cramfs_format.proofs.Lawful.{references_lawful}
use Rattle.cramfs_image.specs.Checked.{Shows, IsRefused, IsLeastAnswer}
use Rattle.cramfs_image.specs.Phases.{AreWell}
use Rattle.cramfs_image.proofs.Trees.{rows_good, rows_records, rows_some}
use Rattle.cramfs_image.proofs.Faultless.{least_refuses}
use Rattle.cramfs_image.proofs.Least.{super_faultless, least_walk, least_after, faultless}
use Rattle.cramfs_image.proofs.Shallow.{shallow}
use Rattle.cramfs_image.proofs.Composed.{tree_of_well}
use Rattle.cramfs_image.proofs.image.Cramfs.check.Goals as goal

-- what the later phases found, said of the forest's rows
moved : (o : Order) (b : List ℕ) (m n : ℕ) (xs ys : List Row) → m ≡ n → xs ≡ ys → AreWell o b m xs → AreWell o b n ys
moved o b m n xs ys e f w = subst (λ (v : List Row). AreWell o b n v) f (subst (λ (v : ℕ). AreWell o b v xs) e w)

shows_in : {all : List ℕ} {limits : Limits} {m : Image} {report : Report} {o p : Order} → o ≡ p
    → Shows o all limits m report → Shows p all limits m report
shows_in {all} {limits} {m} {report} e = subst (λ (v : Order). Shows v all limits m report) e

pub returns-in_err-b-clause-fault : goal.returns-in_err-b-clause-fault
returns-in_err-b-clause-fault c = err_by c.from_residual.result c.from_residual.ensures.1 (λ e is.
    subst (IsRefused c.args.bytes.now c.args.limits) (sym is)
    (least_refuses (order_of c.args.bytes.now) c.args.bytes.now c.args.limits
    (fault_answer c.in_err-b.field-0.0) refl (whole c.in_err-b.ensures.fault)))

pub traverse-requires : goal.traverse-requires
traverse-requires c = references_lawful c.in_ok-b.b.order c.in_ok-b.b.bytes.now

pub returns-in_err-rows-clause-fault : goal.returns-in_err-rows-clause-fault
returns-in_err-rows-clause-fault c =
    err_by c.from_residual-in_err-rows.result c.from_residual-in_err-rows.ensures.1 (λ e is.
    subst (IsRefused c.args.bytes.now c.args.limits) (sym is)
    (least_refuses c.in_ok-b.b.order c.args.bytes.now c.args.limits
    (traversal_answer c.in_err-rows.field-0.0) c.in_ok-b.ensures.order
    (least_walk c.in_ok-b.ensures.ok c.args.limits c.in_err-rows.field-0.0 c.in_err-rows.ensures.fault)))

pub returns-in_err-rows-clause-least : goal.returns-in_err-rows-clause-least
returns-in_err-rows-clause-least c =
    err_by c.from_residual-in_err-rows.result c.from_residual-in_err-rows.ensures.1 (λ e is.
    subst (IsLeastAnswer (order_of c.args.bytes.now) c.args.bytes.now c.args.limits) (sym is)
    (subst (λ (o : Order). IsLeastAnswer o c.args.bytes.now c.args.limits
    (traversal_answer c.in_err-rows.field-0.0)) c.in_ok-b.ensures.order
    (least_walk c.in_ok-b.ensures.ok c.args.limits c.in_err-rows.field-0.0 c.in_err-rows.ensures.fault)))

pub later_fault-requires-clause-records : goal.later_fault-requires-clause-records
later_fault-requires-clause-records c =
    let w = c.in_ok-rows.ensures.ok in
    rows_records c.in_ok-b.ensures.ok c.args.limits.references w.0 c.as_slice-list.result.now c.in_ok-b.b.long
    (c.as_slice-list.ensures.value ∙ w.1) w.2

pub later_fault-requires-clause-good : goal.later_fault-requires-clause-good
later_fault-requires-clause-good c =
    let w = c.in_ok-rows.ensures.ok in
    rows_good c.in_ok-b.ensures.ok c.args.limits.references w.0 c.as_slice-list.result.now
    (c.as_slice-list.ensures.value ∙ w.1) w.2

pub later_fault-requires-clause-some : goal.later_fault-requires-clause-some
later_fault-requires-clause-some c =
    let w = c.in_ok-rows.ensures.ok in
    rows_some c.in_ok-b.ensures.ok c.args.limits.references w.0 c.as_slice-list.result.now
    (c.as_slice-list.ensures.value ∙ w.1) w.2

pub returns-in_err-later_fault-clause-least : goal.returns-in_err-later_fault-clause-least
returns-in_err-later_fault-clause-least c =
    err_by c.from_residual-in_err-later_fault.result c.from_residual-in_err-later_fault.ensures.1 (λ e is.
    subst (IsLeastAnswer (order_of c.args.bytes.now) c.args.bytes.now c.args.limits) (sym is)
    (subst (λ (o : Order). IsNone (HasImageFault o c.args.bytes.now)) c.in_ok-b.ensures.order
    (super_faultless c.in_ok-b.ensures.ok)))

pub opened-requires-clause-tree : goal.opened-requires-clause-tree
opened-requires-clause-tree c =
    let w = c.in_ok-rows.ensures.ok in
    let rows = c.as_slice-list.ensures.value ∙ w.1 in (
      w.0,
      rows,
      tree_of_well c.in_ok-b.b.order _ c.args.limits.references c.args.limits.depth w.0 w.2
          (moved _ _ _ _ _ _ c.min.ensures rows (rw c.in-None.is at c.in_ok-later_fault.ensures)),
    )

pub returns-in-None-clause-ok : goal.returns-in-None-clause-ok
returns-in-None-clause-ok c = shows_in c.in_ok-b.ensures.order c.opened.ensures.shows

pub returns-in-None-clause-shallow : goal.returns-in-None-clause-shallow
returns-in-None-clause-shallow c = shallow c.opened.ensures.shows

pub returns-in-None-clause-clean : goal.returns-in-None-clause-clean
returns-in-None-clause-clean c =
    let w = c.in_ok-rows.ensures.ok in
    subst (λ (o : Order). HasNoFault o c.args.bytes.now c.args.limits.references c.args.limits.depth)
    c.in_ok-b.ensures.order (faultless c.in_ok-b.ensures.ok c.args.limits c.min.result w.0
    c.as_slice-list.result.now c.min.ensures (c.as_slice-list.ensures.value ∙ w.1) w.2
    (rw c.in-None.is at c.in_ok-later_fault.ensures))

pub returns-clause-fault : goal.returns-clause-fault
returns-clause-fault c =
    let w = c.in_ok-rows.ensures.ok in
    subst (IsRefused c.args.bytes.now c.args.limits) (sym c.into.ensures)
    (least_refuses c.in_ok-b.b.order c.args.bytes.now c.args.limits
    (fault_answer c.in-Some.fault) c.in_ok-b.ensures.order
    (least_after c.in_ok-b.ensures.ok c.args.limits c.min.result w.0 c.as_slice-list.result.now c.in-Some.fault
    c.min.ensures (c.as_slice-list.ensures.value ∙ w.1) w.2 (rw c.in-Some.is at c.in_ok-later_fault.ensures)))

pub returns-clause-least : goal.returns-clause-least
returns-clause-least c =
    let w = c.in_ok-rows.ensures.ok in
    subst (IsLeastAnswer (order_of c.args.bytes.now) c.args.bytes.now c.args.limits) (sym c.into.ensures)
    (subst (λ (o : Order). IsLeastAnswer o c.args.bytes.now c.args.limits
    (fault_answer c.in-Some.fault)) c.in_ok-b.ensures.order
    (least_after c.in_ok-b.ensures.ok c.args.limits c.min.result w.0 c.as_slice-list.result.now c.in-Some.fault
    c.min.ensures (c.as_slice-list.ensures.value ∙ w.1) w.2 (rw c.in-Some.is at c.in_ok-later_fault.ensures)))
