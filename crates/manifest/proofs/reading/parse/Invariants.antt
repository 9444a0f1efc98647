use Rattle.std.proofs.Common.{◌≡◌, ◌+◌, ◌≤◌, length}
use Rattle.manifest.specs.Texts.{pieces_after, weight, pieces}
use Rattle.manifest.specs.Grammar.{read_lines, nothing_read}
use Rattle.manifest.specs.Reading.{seen, IsKept}
use Rattle.manifest.proofs.reading.parse.Given as goal

abbrev pub invariant-loop-rest : goal.invariant-loop-rest
invariant-loop-rest l = record {
  reads : read_lines (seen l.reader) (l.number + 1) (pieces_after 10 l.rest)
      ≡ read_lines nothing_read 1 (pieces 10 l.text);
  counts : l.number + weight l.rest ≤ length l.text + 1;
  kept : IsKept l.reader;
}

abbrev pub decreases-loop-rest : goal.decreases-loop-rest
decreases-loop-rest l = weight l.rest
