use Rattle.std.proofs.Common.{arith}
use Rattle.atomic_file.specs.Runs.{IsOther}
use Rattle.atomic_file.proofs.Logs.{adds_both}
use Rattle.atomic_file.proofs.beginning.clear_following.Goals as goal

pub returns-then-not-clear_one-clause-run : goal.returns-then-not-clear_one-clause-run
returns-then-not-clear_one-clause-run g c =
    adds_both (IsOther c.args.names c.args.name) _ _ _ c.loop-following.invariant.run c.clear_one.ensures.run

pub loop-following-preserved : goal.loop-following-preserved
loop-following-preserved g c = record {
  room = omega arith;
  spent = omega arith;
  run = adds_both (IsOther c.args.names c.args.name) _ _ _ c.loop-following.invariant.run c.clear_one.ensures.run;
}
