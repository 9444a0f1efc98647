-- The items in the order of the names, sorted by their offsets, are those of the layout.
use Rattle.std.proofs.Common.{ℕ, ◌+◌, ◌<◌, ◌≤◌, List, [], ◌∷◌, ◌++◌, ap, ◌∙◌, subst, arith, IsPermutation}
use Rattle.std.specs.List.{AllByRecursion as Every}
use Rattle.std.proofs.lemmas.List.{append_assoc}
use Rattle.std.proofs.lemmas.List.Sorted.{IsPermutation-refl, IsPermutation-cons, IsPermutation-trans}
use Rattle.std.proofs.lemmas.List.Sorted.{IsPermutation-append, IsPermutation-append_comm}
use Rattle.cramfs_format.specs.declared.order.Order.{Order}
use Rattle.manifest_tree.specs.Names.{Inode, Names, nothing, leaf, link, subdirectory}
use Rattle.manifest_tree.specs.Items.{Item}
use Rattle.cramfs_layout.specs.Layout.{pad4, entry_len, State, first_state, after_file, after_list, after_names}
use Rattle.cramfs_layout.specs.Items.{entries, below, items_of}
use Rattle.cramfs_layout.specs.Wells.{AreWell}
use Rattle.cramfs_layout.proofs.Regions.{Places, places_join, entries_place, below_place}
use Rattle.cramfs_plan.specs.Passes.{in_preorder}
use Rattle.cramfs_plan.specs.Orders.{Rises}

-- what is last is brought to the front
regroup : {X : Type 0} (a b c d : List X) → IsPermutation ((a ++ b) ++ (c ++ d)) (c ++ (a ++ (b ++ d)))
regroup a b c d =
    subst (λ z. IsPermutation z (c ++ (a ++ (b ++ d)))) (append_assoc (a ++ b) c d)
    (IsPermutation-trans _ _ _ (IsPermutation-append ((a ++ b) ++ c) (c ++ (a ++ b)) d d
    (IsPermutation-append_comm (a ++ b) c) (IsPermutation-refl d))
    (subst (IsPermutation ((c ++ (a ++ b)) ++ d)) (append_assoc c (a ++ b) d ∙ ap (λ z. c ++ z) (append_assoc a b d))
    (IsPermutation-refl _)))

pub preorder_permutes : (o : Order) (l : ℕ) (s : State) (n : Names)
    → IsPermutation (in_preorder o l s n) (entries o l s n ++ below o s n)
preorder_permutes o l s nothing = IsPermutation-refl []
preorder_permutes o l s (leaf name i rest) =
    IsPermutation-cons _ _ _ (preorder_permutes o (l + entry_len name) (after_file s i) rest)
preorder_permutes o l s (link name i rest) =
    IsPermutation-cons _ _ _ (preorder_permutes o (l + entry_len name) (after_file s i) rest)
preorder_permutes o l s (subdirectory name i own rest) =
    let s1 = after_list s own in
    let s2 = after_names s1 own in
    let both = IsPermutation-append _ _ _ _ (preorder_permutes o (pad4 s.at) s1 own)
    (preorder_permutes o (l + entry_len name) s2 rest) in
    IsPermutation-cons _ _ _ (IsPermutation-trans _ _ _ both
    (regroup (entries o (pad4 s.at) s1 own) (below o s1 own) (entries o (l + entry_len name) s2 rest)
    (below o s2 rest)))

-- records that are one after the other are in the order of their offsets
behind : (from to : ℕ) (is : List Item) → Places from to is → Every (λ (i : Item). from ≤ i.place) is
behind from to [] p = tt
behind from to (i ∷ is) p = (
  p.0,
  later from (i.place + entry_len i.name) is (let a = p.0 in omega (arith, a))
      (behind (i.place + entry_len i.name) to is p.1),
)
  where
    later : (a b : ℕ) (js : List Item) → a ≤ b → Every (λ (j : Item). b ≤ j.place) js
        → Every (λ (j : Item). a ≤ j.place) js
    later a b [] h e = tt
    later a b (j ∷ js) h e = (let x = e.0 in omega (arith, h, x), later a b js h e.1)

rising : (from to : ℕ) (is : List Item) → Places from to is → Rises (λ (i : Item). i.place) is
rising from to [] p = tt
rising from to (i ∷ is) p =
    (apart is (behind (i.place + entry_len i.name) to is p.1), rising (i.place + entry_len i.name) to is p.1)
  where
    apart : (js : List Item) → Every (λ (j : Item). i.place + entry_len i.name ≤ j.place) js
        → Every (λ (j : Item). i.place < j.place) js
    apart [] e = tt
    apart (j ∷ js) e = (let x = e.0 in omega (arith, x), apart js e.1)

pub items_rise : (o : Order) (cs : List (List ℕ)) (root : Inode) (n : Names) → AreWell cs n
    → Rises (λ (i : Item). i.place) (items_of o root n)
items_rise o cs root n h =
    let s = first_state n in
    rising 64 (after_names s n).at (items_of o root n) (
      omega arith,
      places_join 76 s.at (after_names s n).at (entries o 76 s n) (below o s n) (entries_place o 76 s n)
          (below_place o cs s n h),
    )

pub all_permute : (o : Order) (i : Item) (n : Names)
    → IsPermutation (i ∷ in_preorder o 76 (first_state n) n)
    (i ∷ entries o 76 (first_state n) n ++ below o (first_state n) n)
all_permute o i n = IsPermutation-cons _ _ _ (preorder_permutes o 76 (first_state n) n)
