use Rattle.std.proofs.Common.{rules, map}
use Rattle.std.proofs.lemmas.List.Sorted.{IsNonDecreasingBy-from_sort_by_key}
use Rattle.manifest_layout.specs.declared.section.Section.{Section}
use Rattle.manifest_layout.specs.Views.{item_view}
use Rattle.cramfs_plan.proofs.Sectioning.{sorted_are}
use Rattle.cramfs_plan.proofs.section_list.sections.Goals as goal

pub returns : goal.returns
returns c = λ end up.
    let e = c.in_ok-sort_by_key.ensures in
    let sorted =
    IsNonDecreasingBy-from_sort_by_key (λ (x : Section). x.place) _ e.sorted (λ x b f'. λ k. search rules) in
    sorted_are _ _ (map item_view c.args.items.now) end up c.in_ok-found.ensures e.permutation sorted
