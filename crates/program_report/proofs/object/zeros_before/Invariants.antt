use Rattle.std.proofs.Common.{◌≡◌, ◌+◌, ◌-◌, ◌≤◌, length}
use Rattle.program_report.specs.Lines.{zeros_before}
use Rattle.program_report.proofs.object.zeros_before.Given as goal

abbrev pub invariant-loop-count : goal.invariant-loop-count
invariant-loop-count l = record {
  count : l.count ≤ 4095;
  within : l.at ≤ length l.b;
  same : l.count + zeros_before l.b l.at (4095 - l.count) ≡ zeros_before l.b l.fn.at 4095;
}

abbrev pub decreases-loop-count : goal.decreases-loop-count
decreases-loop-count l = l.at
