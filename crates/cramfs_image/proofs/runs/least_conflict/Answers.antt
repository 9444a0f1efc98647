use Rattle.std.proofs.Common.{rules}
use Rattle.std.proofs.lemmas.List.Sorted.{IsNonDecreasingBy-from_sort_by_key}
use Rattle.cramfs_image.proofs.Pairing.{least_permuted}
use Rattle.cramfs_image.proofs.Hits.{runs_least}
use Rattle.cramfs_image.proofs.runs.least_conflict.Goals as goal

pub first_conflict-requires : goal.first_conflict-requires
first_conflict-requires c =
    IsNonDecreasingBy-from_sort_by_key (λ x. x.start) _ c.sort_unstable_by_key.ensures.sorted (λ a r q k. search rules)

pub returns : goal.returns
returns c = runs_least _ _ (least_permuted _ _ _ c.sort_unstable_by_key.ensures.permutation c.first_conflict.ensures)
