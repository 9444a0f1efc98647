use Rattle.std.proofs.Common.{◌≡◌}
use Rattle.std.specs.List.{list_any}
use Rattle.manifest.specs.Texts.{pieces, pieces_after, weight}
use Rattle.manifest.specs.Paths.{is_bad_name}
use Rattle.manifest.proofs.path.has_bad_name.Given as goal

abbrev pub invariant-loop-rest : goal.invariant-loop-rest
invariant-loop-rest l = list_any is_bad_name (pieces_after 47 l.rest) ≡ list_any is_bad_name (pieces 47 l.names)

abbrev pub decreases-loop-rest : goal.decreases-loop-rest
decreases-loop-rest l = weight l.rest
