use Rattle.std.proofs.Common.{◌≡◌, ◌≤◌, take}
use Rattle.program_report.specs.Effort.{library_count}
use Rattle.program_report.proofs.needs.count_libraries.Given as goal

-- the entries so far were counted
abbrev pub invariant-loop-index : goal.invariant-loop-index
invariant-loop-index l = record {
  count : l.count ≡ library_count (take l.index l.libraries.needed);
  few : l.count ≤ l.index;
}
