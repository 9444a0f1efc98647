use Rattle.std.proofs.Common.{◌≡◌, ◌++◌}
use Rattle.std.specs.List.{list_any}
use Rattle.manifest.specs.Texts.{pieces, pieces_after, weight, is_empty}
use Rattle.manifest.specs.Views.{texts}
use Rattle.manifest.proofs.fields.split.Given as goal

abbrev pub invariant-loop-rest : goal.invariant-loop-rest
invariant-loop-rest l = record {
  reads : texts l.fields.items ++ pieces_after 32 l.rest ≡ pieces 32 l.line;
  whole : list_any is_empty (pieces_after 32 l.rest) ≡ list_any is_empty (pieces 32 l.line);
}

abbrev pub decreases-loop-rest : goal.decreases-loop-rest
decreases-loop-rest l = weight l.rest
