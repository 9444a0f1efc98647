use Rattle.std.proofs.Common.{rules}
use Rattle.std.proofs.lemmas.Cmp.{nat_list_cmp_total}
use Rattle.std.proofs.lemmas.List.Sorted.{answers_always, ranks_by, IsPermutation-map}
use Rattle.directory_walk.specs.declared.lister.Entry.{Entry}
use Rattle.directory_walk.proofs.Orders.{entry_name, entry_path, in_order}
use Rattle.directory_walk.proofs.sorting.sort.Goals as goal

pub returns-clause-same : goal.returns-clause-same
returns-clause-same g c = IsPermutation-map
    (λ (e : Entry g.row.T.Denot). entry_name e) _ _ c.in_ok-sort_by.ensures.permutation

pub returns-clause-order : goal.returns-clause-order
returns-clause-order g c =
    in_order c.sort_by.new.self.items
    (c.in_ok-sort_by.ensures.sorted _ (ranks_by nat_list_cmp_total (λ (e : Entry g.row.T.Denot). entry_path e))
    (answers_always _ _ _ (λ f a r k called. search rules)))
