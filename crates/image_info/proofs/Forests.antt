-- The forest of an image's tree is a function of its bytes.
use Rattle.std.proofs.Common.{◌≡◌, ◌≢◌, ℕ, suc, ◌^◌, ◌≤◌, List, ◌++◌, length, length-append, None, Some, refl, sym, ap}
use Rattle.std.proofs.Common.{subst, ◌∙◌, arith}
use Rattle.std.proofs.lemmas.Bool.{ne_eqb}
use Rattle.std.proofs.lemmas.List.Elements.{recursion_from_All}
use Rattle.std.specs.List.{AllByRecursion as Every}
use Rattle.record_forest.specs.declared.reference.Row.{Row}
use Rattle.record_forest.specs.Forest.{Forest, none, at, count, rows, all_rows, Stands}
use Rattle.record_forest.proofs.Lists.{every_left, every_right}
use Rattle.romfs_format.specs.Refers.{references, reference_offset, list_of, following}
use Rattle.romfs_format.specs.Made.{StandsAt}
use Rattle.romfs_format.specs.Tree.{IsTree}
use Rattle.romfs_format.proofs.Bridge.{standing, count_rows, offset_none, offset_some, top_offset}
use Rattle.romfs_format.proofs.Same.{grown}
use Rattle.cramfs_format.specs.declared.order.Order.{Order}
use Rattle.cramfs_format.specs.Inode.{list_start, list_end, end_of}
use Rattle.cramfs_format.specs.Refers.{root_place, reference_target, references as cramfs_references}
use Rattle.cramfs_format.specs.Tree.{IsTree as IsCramfsTree}
use Rattle.cramfs_format.proofs.Bridge.{below_of}
use Rattle.cramfs_format.proofs.Lawful.{top_target}
use Rattle.cramfs_format.proofs.Lists.{end_after}
use Rattle.cramfs_format.proofs.Same.{grown as cramfs_grown}
use Rattle.image_info.specs.Gaps.{most_records, romfs_forest, cramfs_forest}

most_is : (n : ℕ) → n ≤ 2 ^ 32 → n ≤ most_records
unfolding most_records
most_is n h = h

-- the records to which the root's two references lead
own_is : (b : List ℕ) (r : ℕ) → r ≢ 0 → reference_offset b r ((references b r).own (references b r).top) ≡ list_of b r r
unfolding reference_offset
own_is b r live = rw (ne_eqb r 0 live) refl

after_is : (b : List ℕ) (r : ℕ) → r ≢ 0
    → reference_offset b r ((references b r).after (references b r).top) ≡ following b r r
unfolding reference_offset
after_is b r live = rw (ne_eqb r 0 live) refl

pub romfs_is : (b : List ℕ) (r most deepest : ℕ) (f : Forest) → r ≢ 0 → IsTree b r most deepest f
    → length (all_rows (references b r) f) ≤ 2 ^ 32 → romfs_forest b r ≡ f
unfolding romfs_forest
romfs_is b r most deepest none live t few =
    absurd (live (sym (top_offset b r) ∙ offset_none (reference_offset b r (references b r).top) t.forest.stands))
romfs_is b r most deepest (at p own after) live t few =
    let g = references b r in
    let own_rows = rows g (g.own g.top) p p 1 own in
    let after_rows = rows g (g.after g.top) p p 1 after in
    let same : p ≡ r = (offset_some (reference_offset b r g.top) p t.forest.stands.0).1 ∙ top_offset b r in
    let apart : Every (λ (y : Row). r ≢ y.offset) (own_rows ++ after_rows) =
    recursion_from_All (λ (y : Row). r ≢ y.offset) (own_rows ++ after_rows)
    (λ i d l z. t.forest.single 0 (suc i) d (omega arith) (omega arith) (same ∙ z)) in
    let n = count_rows b r (g.own g.top) p p 1 own in
    let m = count_rows b r (g.after g.top) p p 1 after in
    let both = length-append own_rows after_rows in
    let own_at : StandsAt b (list_of b r r) own = subst (λ (q : ℕ). StandsAt b q own) (own_is b r live)
    (standing b r (g.own g.top) p p 1 own t.forest.stands.1
    (every_left (λ (y : Row). r ≢ y.offset) own_rows after_rows apart)) in
    let after_at : StandsAt b (following b r r) after = subst (λ (q : ℕ). StandsAt b q after) (after_is b r live)
    (standing b r (g.after g.top) p p 1 after t.forest.stands.2
    (every_right (λ (y : Row). r ≢ y.offset) own_rows after_rows apart)) in
    rw (
      grown most_records b (list_of b r r) own own_at (most_is (count own) (omega arith)),
      grown most_records b (following b r r) after after_at (most_is (count after) (omega arith)),
    )
    (ap (λ (q : ℕ). at q own after) (sym same))

-- nothing comes after the root
root_last : (o : Order) (b : List ℕ)
    → reference_target o b ((cramfs_references o b).after (cramfs_references o b).top) ≡ None
unfolding reference_target
root_last o b =
    rw (ne_eqb (end_of o b root_place) root_place (λ e. let a = end_after o b root_place in absurd (omega arith))) refl

nothing_after : (o : Order) (b : List ℕ) (f : Forest)
    → Stands (cramfs_references o b) ((cramfs_references o b).after (cramfs_references o b).top) f → f ≡ none
nothing_after o b none s = refl
nothing_after o b (at p own after) s = let z : None ≡ Some p = sym (root_last o b) ∙ s.0 in absurd (cc)

pub cramfs_is : (o : Order) (b : List ℕ) (most deepest : ℕ) (f : Forest) → IsCramfsTree o b most deepest f
    → length (all_rows (cramfs_references o b) f) ≤ 2 ^ 32 → cramfs_forest o b ≡ f
unfolding cramfs_forest
cramfs_is o b most deepest none t few =
    let z : None ≡ Some root_place = sym t.forest.stands ∙ top_target o b in absurd (cc)
cramfs_is o b most deepest (at p own after) t few =
    let w = below_of o b most (at p own after) t.forest in
    let z : Some p ≡ Some root_place = sym t.forest.stands.0 ∙ top_target o b in
    let same : p ≡ root_place = cc in
    let l = w.few in
    let e = cramfs_grown most_records o b (list_end o b root_place) (list_start o b root_place) own w.stands
    (most_is (count own) (omega arith)) in
    rw e (ap (λ (q : ℕ). at q own none) (sym same)
    ∙ ap (λ (g : Forest). at p own g) (sym (nothing_after o b after t.forest.stands.2)))
