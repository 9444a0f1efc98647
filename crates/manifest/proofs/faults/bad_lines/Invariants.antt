use Rattle.std.proofs.Common.{◌≡◌, ◌+◌, ◌≤◌, ◌++◌, length}
use Rattle.manifest.specs.Texts.{pieces_after, weight, pieces}
use Rattle.manifest.specs.Grammar.{nothing_read}
use Rattle.manifest.specs.Faults.{faults_from}
use Rattle.manifest.specs.Going.{as_faults}
use Rattle.manifest.specs.Reading.{seen, IsKept}
use Rattle.manifest.proofs.faults.bad_lines.Given as goal

abbrev pub invariant-loop-rest : goal.invariant-loop-rest
invariant-loop-rest l = record {
  reads : as_faults l.bad.items ++ faults_from (seen l.reader) (l.number + 1) (pieces_after 10 l.rest)
      ≡ faults_from nothing_read 1 (pieces 10 l.text);
  counts : l.number + weight l.rest ≤ length l.text + 1;
  kept : IsKept l.reader;
}

abbrev pub decreases-loop-rest : goal.decreases-loop-rest
decreases-loop-rest l = weight l.rest
