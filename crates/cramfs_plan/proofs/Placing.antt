-- What the code places is what the layout does.
use Rattle.std.proofs.Common.{◌≡◌, ◌⊎◌, inl, inr, ◌+◌, ◌^◌, ◌<◌, ◌≤◌, ℕ, zero, suc, List, [], ◌∷◌, ◌++◌, map, drop}
use Rattle.std.proofs.Common.{length, get_or, refl, sym, ap, subst, ◌∙◌, arith}
use Rattle.std.proofs.Math.ListN.{set}
use Rattle.std.specs.List.{AllByRecursion as Every}
use Rattle.std.proofs.lemmas.List.{map-append, append_assoc}
use Rattle.record_forest.proofs.Lists.{every_weaker}
use Rattle.cramfs_format.specs.declared.order.Order.{Order}
use Rattle.manifest_tree.specs.Names.{Inode}
use Rattle.cramfs_layout.specs.Layout.{State, Kept, nowhere, shared, fresh, kept, after_by, after_file}
use Rattle.cramfs_layout.specs.Items.{file_item}
use Rattle.manifest_tree.specs.Items.{Item}
use Rattle.manifest_tree.specs.Tree.{What, a_leaf, a_link}
use Rattle.rom_tree.specs.declared.types.Kind.TheVariants as kind
use Rattle.plan_rows.specs.declared.row.Bytes.TheVariants as bytes
use Rattle.plan_rows.specs.declared.row.Row as code
use Rattle.plan_rows.specs.declared.row.What as code_what
use Rattle.plan_rows.specs.declared.row.What.TheVariants as what
use Rattle.plan_rows.specs.Rows.{what_view, row_view}
use Rattle.cramfs_plan.specs.Passes.{Walk, walked, after_rows, row_item, step}
use Rattle.cramfs_plan.proofs.Measuring.{every_set, every_at}
use Rattle.cramfs_plan.specs.Entries.{stored_by, stored_item, tables_after}

pub item_is : (o : Order) (l : ℕ) (name : List ℕ) (s : State) (i : Inode) (k : Kept) → k ≡ kept s.tables i
    → stored_item o l name i (stored_by k s.at i) i.fill ≡ file_item o l s name i
item_is o l name s i k e = ap (λ (z : Kept). stored_item o l name i (stored_by z s.at i) i.fill) e

end_by : (k : Kept) (s : State) (i : Inode) → (stored_by k s.at i).end ≡ (after_by k s i).at
end_by nowhere s i = refl
end_by (shared t) s i = refl
end_by fresh s i = refl

pub end_is : (s : State) (i : Inode) (k : Kept) → k ≡ kept s.tables i → (stored_by k s.at i).end ≡ (after_file s i).at
end_is s i k e = end_by k s i ∙ ap (λ (z : Kept). (after_by z s i).at) e

tables_by : (k : Kept) (s : State) (i : Inode) → tables_after k s.at i.fill s.tables ≡ (after_by k s i).tables
tables_by nowhere s i = refl
tables_by (shared t) s i = refl
tables_by fresh s i = refl

pub tables_are : (s : State) (i : Inode) (k : Kept) → k ≡ kept s.tables i
    → tables_after k s.at i.fill s.tables ≡ (after_file s i).tables
tables_are s i k e = tables_by k s i ∙ ap (λ (z : Kept). (after_by z s i).tables) e

-- what holds of a file and of a further name holds of what is one of these
pub by_file : (P : What → Type 0) (z : code_what.What) (i : Inode) → (z ≡ what.Leaf) ⊎ (z ≡ what.Link)
    → P (a_leaf i) → P (a_link i) → P (what_view z i)
by_file P z i (inl e) p q = subst (λ x. P (what_view x i)) (sym e) p
by_file P z i (inr e) p q = subst (λ x. P (what_view x i)) (sym e) q

-- no offset is beyond `near` if none was, and the new ones are not
pub near_lists : (near : ℕ) (ls : List ℕ) (d e own : ℕ) → Every (λ n. n ≤ near) ls → e < 300 → own ≤ near + 2 ^ 26
    → Every (λ n. n ≤ near + 2 ^ 26) (set (set ls d (get_or ls d 0 + e)) (d + 1) own)
near_lists near ls d e own h s o =
    let more = every_weaker (λ n. n ≤ near) (λ n. n ≤ near + 2 ^ 26) (λ n l. omega (arith, l)) ls h in
    let at = every_at (λ n. n ≤ near) ls d 0 h (omega arith) in
    every_set (λ n. n ≤ near + 2 ^ 26) (set ls d (get_or ls d 0 + e)) (d + 1) own
    (every_set (λ n. n ≤ near + 2 ^ 26) ls d (get_or ls d 0 + e) more (omega (arith, at, s))) o

-- the value for a row past the last
abbrev pub no_row : code.Row
no_row = record {
  depth = 0;
  name = record { ref_ptr = (0, 0); now = [] };
  what = what.Leaf;
  inode = record {
    line = 0;
    kind = kind.Directory;
    mode = 0;
    uid = 0;
    gid = 0;
    major = 0;
    minor = 0;
    align = 0;
    size = 0;
    bytes = bytes.Nothing;
  };
}

-- one row more
walk_suc : (o : Order) (w : Walk) (rs : List code.Row) (ls : List ℕ) (i : ℕ) (d : code.Row) → i < length rs
    → i < length ls
    → walked o w (map row_view (drop i rs)) (drop i ls)
    ≡ row_item o w (row_view (get_or rs i d)) (get_or ls i 0)
    ∷ walked o (step w (row_view (get_or rs i d)) (get_or ls i 0)) (map row_view (drop (suc i) rs)) (drop (suc i) ls)
walk_suc o w [] ls i d h k = absurd (omega (arith, h))
walk_suc o w (r ∷ rs) [] i d h k = absurd (omega (arith, k))
walk_suc o w (r ∷ rs) (l ∷ ls) zero d h k = refl
walk_suc o w (r ∷ rs) (l ∷ ls) (suc i) d h k = walk_suc o w rs ls i d (omega (arith, h)) (omega (arith, k))

after_suc : (w : Walk) (rs : List code.Row) (ls : List ℕ) (i : ℕ) (d : code.Row) → i < length rs → i < length ls
    → after_rows w (map row_view (drop i rs)) (drop i ls)
    ≡ after_rows (step w (row_view (get_or rs i d)) (get_or ls i 0)) (map row_view (drop (suc i) rs)) (drop (suc i) ls)
after_suc w [] ls i d h k = absurd (omega (arith, h))
after_suc w (r ∷ rs) [] i d h k = absurd (omega (arith, k))
after_suc w (r ∷ rs) (l ∷ ls) zero d h k = refl
after_suc w (r ∷ rs) (l ∷ ls) (suc i) d h k = after_suc w rs ls i d (omega (arith, h)) (omega (arith, k))

one_more : (i : ℕ) → suc i ≡ i + 1
one_more i = omega arith

pub walk_step : (o : Order) (w : Walk) (rs : List code.Row) (ls : List ℕ) (i : ℕ) (d : code.Row) → i < length rs
    → i < length ls
    → walked o w (map row_view (drop i rs)) (drop i ls)
    ≡ row_item o w (row_view (get_or rs i d)) (get_or ls i 0)
    ∷ walked o (step w (row_view (get_or rs i d)) (get_or ls i 0)) (map row_view (drop (i + 1) rs)) (drop (i + 1) ls)
walk_step o w rs ls i d h k =
    let r = row_view (get_or rs i d) in
    let l = get_or ls i 0 in
    walk_suc o w rs ls i d h k ∙ ap (λ (j : ℕ). row_item o w r l
    ∷ walked o (step w r l) (map row_view (drop j rs)) (drop j ls)) (one_more i)

pub after_step : (w : Walk) (rs : List code.Row) (ls : List ℕ) (i : ℕ) (d : code.Row) → i < length rs → i < length ls
    → after_rows w (map row_view (drop i rs)) (drop i ls)
    ≡ after_rows (step w (row_view (get_or rs i d)) (get_or ls i 0)) (map row_view (drop (i + 1) rs)) (drop (i + 1) ls)
after_step w rs ls i d h k =
    let r = row_view (get_or rs i d) in
    let l = get_or ls i 0 in
    after_suc w rs ls i d h k ∙ ap (λ (j : ℕ). after_rows (step w r l) (map row_view (drop j rs)) (drop j ls))
    (one_more i)

-- an entry more is an item less to come
pub more_items : {A : Type 0} (f : A → Item) (xs ys : List A) (e : A) (x : Item) (now later total : List Item)
    → ys ≡ xs ++ e ∷ [] → f e ≡ x
    → now ≡ x ∷ later → map f xs ++ now ≡ total → map f ys ++ later ≡ total
more_items {A = A} f xs ys e x now later total p q n h =
    ap (λ (z : List A). map f z ++ later) p ∙ ap (λ (z : List Item). z ++ later) (map-append f xs (e ∷ []))
    ∙ append_assoc (map f xs) (f e ∷ []) later ∙ ap (λ (z : Item). map f xs ++ z ∷ later) q
    ∙ ap (λ (z : List Item). map f xs ++ z) (sym n) ∙ h
