use Rattle.std.proofs.Common.{◌≡◌, ◌++◌, not}
use Rattle.std.specs.Prelude.{filter}
use Rattle.manifest.specs.Texts.{is_empty, weight}
use Rattle.build_commands.specs.TableRow.{spaced_after, texts, words}
use Rattle.build_commands.proofs.table_row.words.Given as goal

abbrev pub invariant-loop-rest : goal.invariant-loop-rest
invariant-loop-rest l =
    texts l.words.items ++ filter (λ w. not (is_empty w)) (spaced_after l.rest) ≡ words l.line

abbrev pub decreases-loop-rest : goal.decreases-loop-rest
decreases-loop-rest l = weight l.rest
