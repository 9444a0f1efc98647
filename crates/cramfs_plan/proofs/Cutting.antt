-- Entries sorted by their offsets are the items of a layout.
use Rattle.std.proofs.Common.{◌≡◌, ◌≤◌, ◌<◌, ◌%◌, ◌^◌, ℕ, List, [], ◌∷◌, map, refl, ap, ap₂, ◌∙◌, arith, IsPermutation}
use Rattle.std.proofs.Common.{Result, Ok, Err, IfOk}
use Rattle.std.specs.List.{AllByRecursion as Every}
use Rattle.std.specs.List.Sorted.{IsNonDecreasingBy}
use Rattle.std.proofs.lemmas.List.Sorted.{IsPermutation-trans, IsPermutation-map}
use Rattle.manifest_tree.specs.Items.{Item}
use Rattle.cramfs_plan.specs.declared.wide_inode.WideInode.{WideInode}
use Rattle.cramfs_plan.specs.Entries.{entry_view}
use Rattle.cramfs_plan.specs.Orders.{Rises}
use Rattle.cramfs_plan.specs.Small.{IsSmall, cut}
use Rattle.cramfs_plan.proofs.Sorting.{Ascends, ascends, same_order}

-- a small item is as it was
uncut : (i : Item) → IsSmall i → cut i ≡ i
uncut i h =
    let a : i.place % 2 ^ 32 ≡ i.place = small i.place h.place in
    let b : i.first % 2 ^ 32 ≡ i.first = small i.first h.first in
    let c : i.second % 2 ^ 32 ≡ i.second = small i.second h.second in
    let d : i.third % 2 ^ 32 ≡ i.third = small i.third h.third in
    let e : i.table % 2 ^ 32 ≡ i.table = small i.table h.table in
    let f : i.start % 2 ^ 32 ≡ i.start = small i.start h.start in
    let g : i.len % 2 ^ 32 ≡ i.len = small i.len h.len in
    rw (a, b, c, d, e, f, g) refl
  where
    small : (n : ℕ) → n < 2 ^ 32 → n % 2 ^ 32 ≡ n
    small n l = omega (arith, l)

pub all_uncut : (is : List Item) → Every IsSmall is → map cut is ≡ is
all_uncut [] h = refl
all_uncut (i ∷ is) h = ap₂ ◌∷◌ (uncut i h.0) (all_uncut is h.1)

viewed : (f : Item → Item) (es : List WideInode) → map (λ e. f (entry_view e)) es ≡ map f (map entry_view es)
viewed f [] = refl
viewed f (e ∷ es) = ap (λ (is : List Item). f (entry_view e) ∷ is) (viewed f es)

ascends_viewed : (es : List WideInode) → Ascends (λ (e : WideInode). e.place) es
    → Ascends (λ (i : Item). i.place) (map entry_view es)
ascends_viewed [] h = tt
ascends_viewed (e ∷ es) h = (all es h.0, ascends_viewed es h.1)
  where
    all : (fs : List WideInode) → Every (λ (f : WideInode). e.place ≤ f.place) fs
        → Every (λ (i : Item). e.place ≤ i.place) (map entry_view fs)
    all [] k = tt
    all (f ∷ fs) k = (k.0, all fs k.1)

pub sorted_are : (es fs : List WideInode) (is : List Item) → Rises (λ (i : Item). i.place) is → Every IsSmall is
    → IsPermutation is (map entry_view es) → IsPermutation es fs → IsNonDecreasingBy (λ (f : WideInode). f.place) fs
    → map (λ e. cut (entry_view e)) fs ≡ is
sorted_are es fs is up small same moved sorted =
    let whole = IsPermutation-trans is (map entry_view es) (map entry_view fs) same
    (IsPermutation-map entry_view es fs moved) in
    let they = same_order (λ (i : Item). i.place) is (map entry_view fs) up whole
    (ascends_viewed fs (ascends (λ (f : WideInode). f.place) fs sorted)) in
    viewed cut fs ∙ ap (map cut) they ∙ all_uncut is small

pub ok_then : {A E : Type 0} (P Q : A → Type 0) (r : Result A E) → ((a : A) → P a → Q a) → IfOk r P → IfOk r Q
ok_then P Q (Ok a) f h = f a h
ok_then P Q (Err e) f h = tt
