use Rattle.std.proofs.Common.{arith}
use Rattle.atomic_file.specs.Runs.{IsTry, refused}
use Rattle.atomic_file.proofs.Logs.{adds_both, some_holds, none_holds}
use Rattle.atomic_file.proofs.Tries.{later_made, knows_all, is_begun, throughout_begun, after_tries, throughout_tries}
use Rattle.atomic_file.proofs.beginning.begin.Goals as goal

pub returns-in-Ok-Some-clause-any_moment : goal.returns-in-Ok-Some-clause-any_moment
returns-in-Ok-Some-clause-any_moment g c =
    throughout_begun c.args.names _ c.loop-name.name _ _ (omega arith, omega arith)
    (later_made c.args.names _ _ _ c.loop-name.name c.loop-name.invariant.run (some_holds _ _ _
    c.in-Ok-Some.field-0-is c.in-Ok-Some.ensures.some).0)
    c.clear_following.ensures.run

pub returns-in-Ok-Some-clause-begun : goal.returns-in-Ok-Some-clause-begun
returns-in-Ok-Some-clause-begun g c =
    is_begun c.args.names _ c.loop-name.name _ _ (omega arith, omega arith)
    (later_made c.args.names _ _ _ c.loop-name.name c.loop-name.invariant.run (some_holds _ _ _
    c.in-Ok-Some.field-0-is c.in-Ok-Some.ensures.some).0)
    c.clear_following.ensures.run

pub returns-in-Err-clause-any_moment : goal.returns-in-Err-clause-any_moment
returns-in-Err-clause-any_moment g c = throughout_tries c.args.names _ _
    (adds_both (IsTry c.args.names) _ _ _ c.loop-name.invariant.run c.in-Err.ensures.err.0)

pub returns-in-Err-clause-err : goal.returns-in-Err-clause-err
returns-in-Err-clause-err g c = after_tries c.args.names _ _
    (adds_both (IsTry c.args.names) _ _ _ c.loop-name.invariant.run c.in-Err.ensures.err.0)

pub returns-in-Err-clause-cause : goal.returns-in-Err-clause-cause
returns-in-Err-clause-cause g c = refused c.loop-name.name (omega arith, omega arith) c.in-Err.ensures.err.1

pub loop-name-preserved : goal.loop-name-preserved
loop-name-preserved g c = record {
  within = omega arith;
  room = omega arith;
  spent = omega arith;
  run = adds_both (IsTry c.args.names) _ _ _ c.loop-name.invariant.run (none_holds _ _ c.in-Ok-None.field-0-is
      c.in-Ok-None.ensures.none).0;
  taken = knows_all c.args.names _ _ _ c.loop-name.name c.loop-name.invariant.run (none_holds _ _
      c.in-Ok-None.field-0-is c.in-Ok-None.ensures.none).0
      (none_holds _ _ c.in-Ok-None.field-0-is c.in-Ok-None.ensures.none).1 c.loop-name.invariant.taken;
}

pub returns-clause-room : goal.returns-clause-room
returns-clause-room g c = omega arith

pub returns-clause-any_moment : goal.returns-clause-any_moment
returns-clause-any_moment g c = throughout_tries c.args.names _ _ c.loop-name.invariant.run

pub returns-clause-err : goal.returns-clause-err
returns-clause-err g c = after_tries c.args.names _ _ c.loop-name.invariant.run
