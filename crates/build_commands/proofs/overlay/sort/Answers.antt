use Rattle.std.proofs.Common.{rules}
use Rattle.std.proofs.lemmas.Cmp.{nat_list_cmp_total}
use Rattle.std.proofs.lemmas.List.Sorted.{answers_always, ranks_by}
use Rattle.build_commands.specs.Inventory.{path_of}
use Rattle.build_commands.proofs.Overlaid.{named_kept}
use Rattle.build_commands.proofs.overlay.sort.Goals as goal

pub returns-clause-order : goal.returns-clause-order
returns-clause-order c =
    c.in_ok-sort_by.ensures.sorted _ (ranks_by nat_list_cmp_total path_of)
    (answers_always _ _ _ (λ f a r k called. search rules))

pub returns-clause-named : goal.returns-clause-named
returns-clause-named c = λ path.
    named_kept _ _ (c.in_ok-sort_by.ensures.stable _ (ranks_by nat_list_cmp_total path_of)
    (answers_always _ _ _ (λ f a r k called. search rules))) path
