use Rattle.std.proofs.Common.{rules, ◌≡◌, map, ap, ◌∙◌}
use Rattle.std.proofs.lemmas.List.Sorted.{IsNonDecreasingBy-from_sort_by_key}
use Rattle.manifest_layout.specs.Views.{item_view}
use Rattle.cramfs_plan.specs.declared.wide_inode.WideInode.{WideInode}
use Rattle.cramfs_plan.specs.Entries.{entry_view}
use Rattle.cramfs_plan.specs.Small.{cut}
use Rattle.cramfs_plan.proofs.Cutting.{sorted_are, ok_then}
use Rattle.cramfs_plan.proofs.items.sorted_items.Goals as goal

pub returns : goal.returns
returns c = λ is up small same.
    let e = c.in_ok-sort_by_key.ensures in
    let sorted =
    IsNonDecreasingBy-from_sort_by_key (λ (x : WideInode). x.place) _ e.sorted (λ x b f'. λ k. search rules) in
    let are = sorted_are _ _ is up small same e.permutation sorted in
    ok_then (λ items. map item_view items.items ≡ map (λ x. cut (entry_view x)) c.deref.result.now)
    (λ items. map item_view items.items ≡ is) c.items_of.result
    (λ items h. h ∙ ap (map (λ x. cut (entry_view x))) c.deref.ensures.value ∙ are) c.items_of.ensures
