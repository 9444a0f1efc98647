use Rattle.std.proofs.Common.{rules}
use Rattle.std.proofs.lemmas.List.Sorted.{IsNonDecreasingBy-from_sort_by_key, IsPermutation-sym}
use Rattle.rom_fields.proofs.Same.{least_permuted}
use Rattle.rom_fields.proofs.span.least_overlap.Goals as goal

pub first_meeting-requires : goal.first_meeting-requires
first_meeting-requires c =
    IsNonDecreasingBy-from_sort_by_key (λ x. x.start) _ c.sort_unstable_by_key.ensures.sorted (λ a r q k. search rules)

pub returns-clause-least : goal.returns-clause-least
returns-clause-least c = least_permuted _ _ _ c.sort_unstable_by_key.ensures.permutation c.first_meeting.ensures

pub returns-clause-kept : goal.returns-clause-kept
returns-clause-kept c = IsPermutation-sym _ _ c.sort_unstable_by_key.ensures.permutation
