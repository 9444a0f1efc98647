use Rattle.std.proofs.Common.{◌≡◌}
use Rattle.serve_lines.proofs.Runs.{Runs}
use Rattle.serve_lines.proofs.serve.serve_lines.Given as goal

abbrev pub invariant-loop : goal.invariant-loop
invariant-loop g l = record {
  runs : Runs (g.M.LineMachine.machine l.initial.m) (g.M.LineMachine.state l.initial.m)
      (g.R.ByteRead.remaining l.initial.r) (g.R.ByteRead.remaining l.r)
      (g.W.ByteWrite.output l.initial.w) (g.W.ByteWrite.output l.w) (g.M.LineMachine.state l.m) l.line.items l.counter;
  same : g.M.LineMachine.machine l.m ≡ g.M.LineMachine.machine l.initial.m;
  read : g.R.ByteRead.failures l.r ≡ g.R.ByteRead.failures l.initial.r;
  wrote : (g.W.ByteWrite.output l.w).failures ≡ (g.W.ByteWrite.output l.initial.w).failures;
}
