-- The results of the two passes for a whole tree.
use Rattle.std.proofs.Common.{◌≡◌, ◌≢◌, ◌+◌, ◌<◌, ◌≤◌, ◌^◌, ◌==◌, ◌||◌, nat_lt, if◌then◌else◌, Bool, true, false, ℕ}
use Rattle.std.proofs.Common.{zero, suc, List, [], ◌∷◌, ◌++◌, map, length, get_or, replicate, refl, sym, ap, subst, ◌∙◌}
use Rattle.std.proofs.Common.{arith, IsPermutation}
use Rattle.std.specs.List.{All, AllByRecursion as Every, list_any}
use Rattle.std.proofs.lemmas.Bool.{lt-ltb, le-ltb, ne_eqb}
use Rattle.std.proofs.lemmas.List.{length-append}
use Rattle.std.proofs.lemmas.List.Elements.{recursion_from_All, All-from_recursion}
use Rattle.std.proofs.lemmas.List.Sorted.{All-permutation, IsPermutation-sym, length_permutation}
use Rattle.cramfs_format.specs.declared.order.Order.{Order}
use Rattle.cramfs_format.specs.Refers.{root_place}
use Rattle.rom_fields.specs.Padding.{pad}
use Rattle.rom_fields.proofs.Padding.{pad-after}
use Rattle.manifest_tree.specs.Names.{Inode, Names, nothing, leaf, link, subdirectory, no_bytes}
use Rattle.manifest_tree.specs.Files.{height}
use Rattle.manifest_tree.specs.Items.{Item}
use Rattle.formats.specs.Format.{cramfs}
use Rattle.cramfs_layout.specs.Layout.{State, entry_len, list_len, pad4, first_state, after_file, after_list}
use Rattle.cramfs_layout.specs.Layout.{after_names, size_of, root_offset}
use Rattle.cramfs_layout.specs.Items.{item_of, items_of}
use Rattle.cramfs_layout.specs.Planned.{IsPlanned}
use Rattle.cramfs_layout.specs.Wells.{AreWell}
use Rattle.record_forest.proofs.Lists.{every_join}
use Rattle.plan_rows.specs.declared.row.Row as code
use Rattle.plan_rows.specs.declared.row.Inode as code_inode
use Rattle.plan_rows.specs.declared.row.What as code_what
use Rattle.plan_rows.specs.declared.row.What.TheVariants as what
use Rattle.plan_rows.specs.Rows.{Row, rows, row_view, inode_view, deepest}
use Rattle.plan_rows.specs.Fits.{IsFit, FitsAs}
use Rattle.plan_rows.specs.Rows.{what_view}
use Rattle.plan_rows.proofs.Depths.{deepest_is}
use Rattle.cramfs_plan.specs.Bounds.{IsNarrow, IsPlaceableAs, IsRow}
use Rattle.cramfs_plan.specs.Passes.{lens_of, own_lens, named_lens, first_walk, walked, after_rows, in_preorder}
use Rattle.cramfs_plan.specs.Small.{IsSmall}
use Rattle.cramfs_plan.specs.Wholes.{is_long_list, has_long_list, too_large}
use Rattle.cramfs_plan.proofs.Measuring.{measures}
use Rattle.cramfs_plan.proofs.Walking.{walks}
use Rattle.cramfs_plan.proofs.Ordered.{all_permute}
use Rattle.cramfs_plan.proofs.Small.{item_small, are_small}

-- as many items as rows, and the root's
preorder_counted : (o : Order) (d l : ℕ) (s : State) (n : Names) → length (in_preorder o l s n) ≡ length (rows d n)
preorder_counted o d l s nothing = refl
preorder_counted o d l s (leaf name i rest) = ap suc (preorder_counted o d (l + entry_len name) (after_file s i) rest)
preorder_counted o d l s (link name i rest) = ap suc (preorder_counted o d (l + entry_len name) (after_file s i) rest)
preorder_counted o d l s (subdirectory name i own rest) =
    let s1 = after_list s own in
    let a = preorder_counted o (d + 1) (pad4 s.at) s1 own in
    let b = preorder_counted o d (l + entry_len name) (after_names s1 own) rest in
    let c = length-append (in_preorder o (pad4 s.at) s1 own)
    (in_preorder o (l + entry_len name) (after_names s1 own) rest) in
    let e = length-append (rows (d + 1) own) (rows d rest) in
    omega (arith, a, b, c, e)

pub counted : (o : Order) (root : Inode) (n : Names) → length (items_of o root n) ≡ length (rows 1 n) + 1
counted o root n =
    let s = first_state n in
    let i = item_of o root_place [] root (list_len n) (root_offset n) 0 0 0 no_bytes in
    let a = length_permutation (i ∷ in_preorder o 76 s n) (items_of o root n) (all_permute o i n) in
    let b = preorder_counted o 1 76 s n in
    omega (arith, a, b)

or_true : (b : Bool) → b || true ≡ true
or_true true = refl
or_true false = refl

pub too_many : (o : Order) (root : Inode) (n : Names) → 2 ^ 20 ≤ length (rows 1 n) → too_large o root n ≡ true
too_many o root n h =
    let k = counted o root n in
    let e : nat_lt (2 ^ 20) (length (items_of o root n)) ≡ true =
    lt-ltb (2 ^ 20) (length (items_of o root n)) (omega (arith, h, k)) in
    let a = nat_lt (2 ^ 28) (size_of n) in
    let b = is_long_list (list_len n) || has_long_list n in
    let c = nat_lt 64 (height n) in
    ap (λ (t : Bool). a || (b || (c || t))) e ∙ ap (λ (t : Bool). a || (b || t)) (or_true c)
    ∙ ap (λ (t : Bool). a || t) (or_true b) ∙ or_true a

pub too_deep : (o : Order) (root : Inode) (n : Names) → 64 < deepest (rows 1 n) → too_large o root n ≡ true
too_deep o root n h =
    let k = deepest_is n in
    let e : nat_lt 64 (height n) ≡ true = lt-ltb 64 (height n) (omega (arith, h, k)) in
    let a = nat_lt (2 ^ 28) (size_of n) in
    let b = is_long_list (list_len n) || has_long_list n in
    let c = nat_lt (2 ^ 20) (length (items_of o root n)) in
    ap (λ (t : Bool). a || (b || (t || c))) e ∙ ap (λ (t : Bool). a || t) (or_true b) ∙ or_true a

pub long_lists : (o : Order) (root : Inode) (n : Names) → is_long_list (list_len n) || has_long_list n ≡ true
    → too_large o root n ≡ true
long_lists o root n e =
    let a = nat_lt (2 ^ 28) (size_of n) in
    let c = nat_lt 64 (height n) || nat_lt (2 ^ 20) (length (items_of o root n)) in
    ap (λ (t : Bool). a || (t || c)) e ∙ or_true a

pub too_long : (o : Order) (root : Inode) (n : Names) → 2 ^ 28 < size_of n → too_large o root n ≡ true
too_long o root n h =
    let e = lt-ltb (2 ^ 28) (size_of n) h in
    let b = (is_long_list (list_len n) || has_long_list n)
    || (nat_lt 64 (height n) || nat_lt (2 ^ 20) (length (items_of o root n))) in
    ap (λ (t : Bool). t || b) e

pub not_large : (o : Order) (root : Inode) (n : Names) → length (rows 1 n) < 2 ^ 20 → deepest (rows 1 n) ≤ 64
    → is_long_list (list_len n) || has_long_list n ≡ false → size_of n ≤ 2 ^ 28 → too_large o root n ≡ false
not_large o root n few low short room =
    let k = counted o root n in
    let h = deepest_is n in
    let a = le-ltb (2 ^ 28) (size_of n) room in
    let b = le-ltb 64 (height n) (omega (arith, low, h)) in
    let c = le-ltb (2 ^ 20) (length (items_of o root n)) (omega (arith, few, k)) in
    ap (λ (t : Bool). t || ((is_long_list (list_len n) || has_long_list n)
    || (nat_lt 64 (height n) || nat_lt (2 ^ 20) (length (items_of o root n))))) a
    ∙ ap (λ (t : Bool). t || (nat_lt 64 (height n) || nat_lt (2 ^ 20) (length (items_of o root n)))) short
    ∙ ap (λ (t : Bool). t || nat_lt (2 ^ 20) (length (items_of o root n))) b ∙ c

-- some list is too long
any-append : (f : ℕ → Bool) (xs ys : List ℕ) → list_any f (xs ++ ys) ≡ list_any f xs || list_any f ys
any-append f [] ys = refl
any-append f (x ∷ xs) ys =
    ap (λ (b : Bool). f x || b) (any-append f xs ys) ∙ assoc (f x) (list_any f xs) (list_any f ys)
  where
    assoc : (a b c : Bool) → a || (b || c) ≡ (a || b) || c
    assoc true b c = refl
    assoc false b c = refl

pub any_long : (n : Names) → list_any is_long_list (named_lens n) ≡ has_long_list n
any_long nothing = refl
any_long (leaf name i after) = any_long after
any_long (link name i after) = any_long after
any_long (subdirectory name i own after) =
    ap (λ (b : Bool). is_long_list (list_len own) || b)
    (any-append is_long_list (named_lens own) (named_lens after)
    ∙ ap (λ (b : Bool). b || list_any is_long_list (named_lens after)) (any_long own)
    ∙ ap (λ (b : Bool). has_long_list own || b) (any_long after))

-- the results of the passes for the rows of a whole tree
pub record Known (o : Order) (rs : List Row) (n : Names) : Type 0 where
  pub root : get_or (lens_of (replicate {A = ℕ} 66 0) rs) 1 0 ≡ list_len n
  pub own : own_lens (replicate {A = ℕ} 66 0) rs ≡ named_lens n
  pub items : walked o (first_walk (list_len n)) rs (named_lens n) ≡ in_preorder o 76 (first_state n) n
  pub end : (after_rows (first_walk (list_len n)) rs (named_lens n)).state.at ≡ (after_names (first_state n) n).at

pub known : (o : Order) (rs : List Row) (n : Names) → rs ≡ rows 1 n → deepest rs ≤ 64 → Known o rs n
known o rs n e low = subst (λ qs. Known o qs n) (sym e) whole
  where
    zeros : (j : ℕ) → 1 < j → get_or (replicate {A = ℕ} 66 0) j 0 ≡ 0
    zeros j h = by 66 j
      where
        by : (k i : ℕ) → get_or (replicate {A = ℕ} k 0) i 0 ≡ 0
        by zero i = refl
        by (suc k) zero = refl
        by (suc k) (suc i) = by k i

    alone : (k : ℕ) → 0 + k ≡ k
    alone k = omega arith

    whole : Known o (rows 1 n) n
    whole =
        let h = deepest_is n in
        let d = ap deepest e in
        let m = measures 1 (replicate {A = ℕ} 66 0) n (omega (arith, low, h, d)) zeros in
        let w = walks o 1 (first_walk (list_len n)) n (omega (arith, low, h, d)) in
        record {
          root = ap (λ (ls : List ℕ). get_or ls 1 0) m.lens_are ∙ alone (list_len n);
          own = m.own_are;
          items = w.items;
          end = ap (λ (s : State). s.at) w.state;
        }

pub own_counted : (lens : List ℕ) (rs : List Row) → length (own_lens lens rs) ≡ length rs
own_counted lens [] = refl
own_counted lens (r ∷ rs) = ap suc (own_counted lens rs)

-- rows that fit can be measured and placed
each_row : (o : Order) (rs : List code.Row) → Every (IsFit (cramfs o)) (map row_view rs)
    → deepest (map row_view rs) ≤ 64 → Every IsRow rs
each_row o [] h k = tt
each_row o (r ∷ rs) h k =
    let short = h.0.short in
    let depth : r.depth < 65 = omega (arith, k) in
    let rest : deepest (map row_view rs) ≤ 64 = omega (arith, k) in
    (((short, depth), placeable r.what r.inode h.0.fits), each_row o rs h.1 rest)
  where
    placeable : (w : code_what.What) (i : code_inode.Inode) → FitsAs (cramfs o) (what_view w (inode_view i))
        → IsPlaceableAs w i
    placeable what.Leaf i f = let large : (2 ^ 24 ≤ i.size → ⊥) = f.0 in (omega (arith, large), f.1, f.2)
    placeable what.Link i f = f tt
    placeable what.Directory i f = tt

pub all_rows : (o : Order) (rs : List code.Row) → Every (IsFit (cramfs o)) (map row_view rs)
    → deepest (map row_view rs) ≤ 64 → All IsRow rs
all_rows o rs h k = All-from_recursion IsRow rs (each_row o rs h k)

pub all_narrow : (o : Order) (rs : List code.Row) → Every (IsFit (cramfs o)) (map row_view rs)
    → deepest (map row_view rs) ≤ 64 → All IsNarrow rs
all_narrow o rs h k = λ i d l. (all_rows o rs h k i d l).0

-- the root's item, and all items
offset_is : (n : Names) → (if list_len n == 0 then 0 else 76) ≡ root_offset n
offset_is nothing = refl
offset_is (leaf name i after) =
    let e : entry_len name + list_len after ≢ 0 = omega arith in rw (ne_eqb (entry_len name + list_len after) 0 e) refl
offset_is (link name i after) =
    let e : entry_len name + list_len after ≢ 0 = omega arith in rw (ne_eqb (entry_len name + list_len after) 0 e) refl
offset_is (subdirectory name i own after) =
    let e : entry_len name + list_len after ≢ 0 = omega arith in rw (ne_eqb (entry_len name + list_len after) 0 e) refl

room : (n : Names) → size_of n ≤ 2 ^ 28 → (after_names (first_state n) n).at ≤ 2 ^ 28
unfolding size_of
room n h = let k = pad-after (after_names (first_state n) n).at 4096 (omega arith) in omega (arith, h, k)

pub all_small : (o : Order) (volume : List ℕ) (root : Inode) (n : Names) (cs : List (List ℕ))
    → IsPlanned volume root n cs
    → Every (IsFit (cramfs o)) (rows 1 n) → Every IsSmall (items_of o root n)
all_small o volume root n cs p fit =
    let s = first_state n in
    let r = item_of o root_place [] root (list_len n) (root_offset n) 0 0 0 no_bytes in
    let f = p.directory in
    let low = f.small in
    let end = room n p.room in
    let own = are_small o cs 1 76 s n p.well fit tt (omega (arith, low)) end in
    let here = item_small o root_place [] root (list_len n) (root_offset n) 0 0 0 no_bytes (omega arith)
    (omega arith) f.mode f.owner.0 f.owner.1 low (near n) (omega arith) (omega arith) (omega arith) in
    recursion_from_All IsSmall (items_of o root n)
    (All-permutation IsSmall (r ∷ in_preorder o 76 s n) (items_of o root n) (all_permute o r n)
    (All-from_recursion IsSmall (r ∷ in_preorder o 76 s n) (here, own.items)))
  where
    near : (m : Names) → root_offset m < 2 ^ 28
    near nothing = omega arith
    near (leaf name i after) = omega arith
    near (link name i after) = omega arith
    near (subdirectory name i own after) = omega arith

pub all_are : (o : Order) (root : Inode) (n : Names) (len : ℕ) (found : List Item) → len ≡ list_len n
    → found ≡ in_preorder o 76 (first_state n) n
    → IsPermutation (items_of o root n)
    (item_of o root_place [] root len (if len == 0 then 0 else 76) 0 0 0 no_bytes ∷ found)
all_are o root n len found e f =
    let i = item_of o root_place [] root (list_len n) (root_offset n) 0 0 0 no_bytes in
    let same : i ∷ in_preorder o 76 (first_state n) n
    ≡ item_of o root_place [] root len (if len == 0 then 0 else 76) 0 0 0 no_bytes ∷ found =
    ap (λ (k : ℕ). item_of o root_place [] root (list_len n) k 0 0 0 no_bytes ∷ in_preorder o 76 (first_state n) n)
    (sym (offset_is n))
    ∙ ap (λ (k : ℕ). item_of o root_place [] root k (if k == 0 then 0 else 76) 0 0 0 no_bytes
    ∷ in_preorder o 76 (first_state n) n) (sym e)
    ∙ ap (λ (is : List Item). item_of o root_place [] root len (if len == 0 then 0 else 76) 0 0 0 no_bytes ∷ is)
    (sym f) in
    subst (λ l. IsPermutation (items_of o root n) l) same (IsPermutation-sym _ _ (all_permute o i n))

-- the code's results are those of the passes
pub size_is : (o : Order) (rs : List Row) (n : Names) (root end : ℕ) (lens : List ℕ) → Known o rs n → root ≡ list_len n
    → lens ≡ named_lens n
    → end ≡ (after_rows (first_walk root) rs lens).state.at → pad end 4096 ≡ size_of n
unfolding size_of
size_is o rs n root end lens t r l e =
    ap (λ (k : ℕ). pad k 4096) (e ∙ ap (λ (k : ℕ). (after_rows (first_walk k) rs lens).state.at) r
    ∙ ap (λ (ls : List ℕ). (after_rows (first_walk (list_len n)) rs ls).state.at) l ∙ t.end)

pub found_is : (o : Order) (rs : List Row) (n : Names) (root : ℕ) (lens : List ℕ) (found : List Item) → Known o rs n
    → root ≡ list_len n → lens ≡ named_lens n
    → found ≡ walked o (first_walk root) rs lens → found ≡ in_preorder o 76 (first_state n) n
found_is o rs n root lens found t r l e =
    e ∙ ap (λ (k : ℕ). walked o (first_walk k) rs lens) r
    ∙ ap (λ (ls : List ℕ). walked o (first_walk (list_len n)) rs ls) l ∙ t.items

-- the names of items are short
short_preorder : (o : Order) (cs : List (List ℕ)) (l : ℕ) (s : State) (n : Names) → AreWell cs n
    → Every (λ (i : Item). length i.name < 256) (in_preorder o l s n)
short_preorder o cs l s nothing h = tt
short_preorder o cs l s (leaf name i rest) h =
    let k = h.0.1 in (omega (arith, k), short_preorder o cs (l + entry_len name) (after_file s i) rest h.2)
short_preorder o cs l s (link name i rest) h = absurd h
short_preorder o cs l s (subdirectory name i own rest) h =
    let s1 = after_list s own in
    let k = h.0.1 in (
      omega (arith, k),
      every_join (λ (i : Item). length i.name < 256) (in_preorder o (pad4 s.at) s1 own)
          (in_preorder o (l + entry_len name) (after_names s1 own) rest)
          (short_preorder o cs (pad4 s.at) s1 own h.2)
          (short_preorder o cs (l + entry_len name) (after_names s1 own) rest h.3),
    )

pub short_names : (o : Order) (volume : List ℕ) (root : Inode) (n : Names) (cs : List (List ℕ))
    → IsPlanned volume root n cs
    → Every (λ (i : Item). length i.name < 256) (items_of o root n)
short_names o volume root n cs p =
    let s = first_state n in
    let r = item_of o root_place [] root (list_len n) (root_offset n) 0 0 0 no_bytes in
    let short = short_preorder o cs 76 s n p.well in
    recursion_from_All (λ (i : Item). length i.name < 256) (items_of o root n)
    (All-permutation (λ (i : Item). length i.name < 256) (r ∷ in_preorder o 76 s n) (items_of o root n)
    (all_permute o r n)
    (All-from_recursion (λ (i : Item). length i.name < 256) (r ∷ in_preorder o 76 s n) (omega arith, short)))
