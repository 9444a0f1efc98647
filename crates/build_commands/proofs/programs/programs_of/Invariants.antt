use Rattle.std.proofs.Common.{◌≡◌, ◌≤◌, drop}
use Rattle.build_commands.specs.Programs.{programs, programs_from, programs_in}
use Rattle.build_commands.proofs.programs.programs_of.Given as goal

abbrev pub invariant-loop-line : goal.invariant-loop-line
invariant-loop-line l = record {
  programs : programs_from l.spots l.verdicts (programs l.programs) l.file (drop l.line-index l.lines)
      ≡ programs_in l.spots l.verdicts l.lines;
  few : l.file ≤ l.line-index;
}
