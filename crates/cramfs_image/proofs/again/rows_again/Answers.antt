use Rattle.std.proofs.Common.{◌≡◌, sym, ◌∙◌}
use Rattle.record_forest.specs.declared.traversal.TraversalError.TheVariants.{OutOfMemory, TooMany, Record, Twice}
use Rattle.cramfs_format.proofs.Lawful.{references_lawful}
use Rattle.cramfs_image.proofs.Refused.{only_memory}
use Rattle.cramfs_image.proofs.again.rows_again.Goals as goal

pub traverse-requires : goal.traverse-requires
traverse-requires c = references_lawful c.args.b.now.order c.args.b.now.bytes.now

pub unreachable-requires : goal.unreachable-requires
unreachable-requires c =
    let e = only_memory c.args.b.now.order c.args.b.now.bytes.now c.args.most c.requires.0 c.in-Err-TooMany.field-0
    c.requires.1 c.in-Err-TooMany.ensures.fault in
    let z : TooMany ≡ OutOfMemory = sym c.in-Err-TooMany.field-0-is ∙ e in
    absurd (cc)

pub unreachable-requires-in-Err-Record : goal.unreachable-requires-in-Err-Record
unreachable-requires-in-Err-Record c =
    let e = only_memory c.args.b.now.order c.args.b.now.bytes.now c.args.most c.requires.0 c.in-Err-Record.field-0
    c.requires.1 c.in-Err-Record.ensures.fault in
    let z : Record c.in-Err-Record.field-0-0 ≡ OutOfMemory = sym c.in-Err-Record.field-0-is ∙ e in
    absurd (cc)

pub unreachable-requires-in-Err-Twice : goal.unreachable-requires-in-Err-Twice
unreachable-requires-in-Err-Twice c =
    let e = only_memory c.args.b.now.order c.args.b.now.bytes.now c.args.most c.requires.0 c.in-Err-Twice.field-0
    c.requires.1 c.in-Err-Twice.ensures.fault in
    let z : Twice c.in-Err-Twice.field-0-0 ≡ OutOfMemory = sym c.in-Err-Twice.field-0-is ∙ e in
    absurd (cc)
