use Rattle.std.proofs.Common.{sym, subst, ◌∙◌}
use Rattle.std.proofs.lemmas.Bool.{false≢true}
use Rattle.rom_fields.specs.Extents.{IsLeastOf}
use Rattle.cramfs_format.specs.Inode.{HasEntryFault}
use Rattle.cramfs_image.specs.Phases.{IsFaultAt}
use Rattle.record_forest.specs.Faults.{IsLeastFaultOf}
use Rattle.cramfs_image.proofs.Faults.{StandsHere, entry_joined, numbered, unnumbered, unfit}
use Rattle.cramfs_image.proofs.soundness.entry_fault.Goals as goal
use Rattle.cramfs_image.proofs.soundness.entry_fault.Goals.{in-Some, in-None}

pub returns-then-not-fits-clause-least : goal.returns-then-not-fits-clause-least
returns-then-not-fits-clause-least c =
    unfit c.args.b.now.order c.args.b.now.bytes.now c.args.end c.args.at
    (λ h. false≢true (sym c.if-not-fits.true ∙ c.fits.ensures.1 h))

pub returns-clause-least : goal.returns-clause-least
returns-clause-least c =
    let here : IsLeastFaultOf (StandsHere c.args.b.now.order c.args.b.now.bytes.now c.args.at) c.match-fault_at.here =
    elim c.match-fault_at.branch [
      | in-Some w ↦ rw w.here-is (numbered c.args.b.now.order c.args.b.now.bytes.now c.args.at w.in-Some.number
          (subst (IsLeastOf (IsFaultAt c.args.b.now.order c.args.b.now.bytes.now c.args.at)) w.in-Some.is
          c.fault_at.ensures))
      | in-None w ↦ rw w.here-is (unnumbered c.args.b.now.order c.args.b.now.bytes.now c.args.at
          (subst (IsLeastOf (IsFaultAt c.args.b.now.order c.args.b.now.bytes.now c.args.at)) w.in-None.is
          c.fault_at.ensures))
    ] in
    subst (IsLeastFaultOf (HasEntryFault c.args.b.now.order c.args.b.now.bytes.now c.args.end c.args.at))
    (sym c.lesser_of_both.ensures)
    (entry_joined (c.fits.ensures.0 c.if-not-fits.false) c.match-fault_at.here c.pointer_fault.result here
    c.pointer_fault.ensures.least)
