use Rattle.std.proofs.Common.{rules, ◌∙◌, sym}
use Rattle.std.proofs.lemmas.List.Sorted.{IsNonDecreasingBy-from_sort_by_key}
use Rattle.image_info.proofs.Left.{unused_permuted}
use Rattle.image_info.proofs.spans.unused_bytes.Goals as goal

pub left_by-requires : goal.left_by-requires
left_by-requires c =
    IsNonDecreasingBy-from_sort_by_key (λ x. x.start) _ c.sort_unstable_by_key.ensures.sorted (λ a r q k. search rules)

pub returns : goal.returns
returns c = c.left_by.ensures ∙ sym (unused_permuted _ _ 0 c.args.size c.sort_unstable_by_key.ensures.permutation)
