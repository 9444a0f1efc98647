use Rattle.std.proofs.lemmas.List.Sorted.{IsNonDecreasingBy-from_sort}
use Rattle.image_check.specs.Any.{any_view}
use Rattle.rom_c.proofs.Numbered.{sorted_links}
use Rattle.rom_c.proofs.linked.fill.Goals as goal

pub returns-clause-sorted : goal.returns-clause-sorted
returns-clause-sorted c = IsNonDecreasingBy-from_sort (λ x. x) _ c.sort_unstable.ensures.sorted

pub returns-clause-links : goal.returns-clause-links
returns-clause-links c = λ n.
    sorted_links (any_view c.args.image.now).tree _ _ n c.put_numbers.ensures c.sort_unstable.ensures.permutation
