use Rattle.std.proofs.Common.{subst, arith}
use Rattle.record_forest.specs.declared.reference.Reference.{Reference}
use Rattle.record_forest.specs.References.{top}
use Rattle.record_forest.specs.Faults.{IsLeastFault}
use Rattle.record_forest.proofs.Alone.{alone_few, alone_fault, none_allowed}
use Rattle.record_forest.proofs.traversal.traverse.Goals as goal

pub returns-then-most-eq0-clause-fault : goal.returns-then-most-eq0-clause-fault
returns-then-most-eq0-clause-fault g c = none_allowed _ _ _ c.if-most-eq0.true

pub edges-requires-clause-reached : goal.edges-requires-clause-reached
edges-requires-clause-reached g c = top c.top-top.ensures.reference

pub returns-in-Err-clause-fault : goal.returns-in-Err-clause-fault
returns-in-Err-clause-fault g c =
    let Sound = g.R.Records.sound c.args.records.now in
    let Faulty = g.R.Records.faulty c.args.records.now in
    let e = c.top-top.ensures.reference in
    let unsound = subst (λ (x : Reference). Sound x → ⊥) e c.in-Err.ensures.unsound in
    let least = subst (λ (x : Reference). IsLeastFault (Faulty x) c.in-Err.fault) e c.in-Err.ensures.err in
    (alone_few unsound c.args.most (omega arith), alone_fault unsound Faulty c.in-Err.fault least)
