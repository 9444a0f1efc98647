-- The pass forwards returns the items of the layout, in the order of the names.
use Rattle.std.proofs.Common.{◌≡◌, ◌≢◌, ◌+◌, ◌<◌, ℕ, suc, List, [], ◌∷◌, ◌++◌, length, get_or, refl, sym, ap, ◌∙◌}
use Rattle.std.proofs.Common.{arith}
use Rattle.std.proofs.Math.ListN.{set}
use Rattle.std.proofs.lemmas.Bool.{ne_eqb}
use Rattle.std.proofs.lemmas.List.{get_or-set_same, get_or-set_other, length-set, length-append}
use Rattle.cramfs_format.specs.declared.order.Order.{Order}
use Rattle.manifest_tree.specs.Names.{Names, nothing, leaf, link, subdirectory, no_bytes}
use Rattle.manifest_tree.specs.Tree.{a_leaf, a_link, a_directory}
use Rattle.manifest_tree.specs.Files.{height}
use Rattle.manifest_tree.specs.Items.{Item}
use Rattle.cramfs_layout.specs.Layout.{State, entry_len, list_len, list_offset, pad4, after_list, after_names}
use Rattle.cramfs_layout.specs.Items.{item_of}
use Rattle.plan_rows.specs.Rows.{Row, row, rows}
use Rattle.cramfs_plan.specs.Passes.{named_lens, Walk, offset_by, state_by, lists_with, step, row_item, walked}
use Rattle.cramfs_plan.specs.Passes.{after_rows, in_preorder}

walked-append : (o : Order) (w : Walk) (rs qs : List Row) (ls ms : List ℕ) → length ls ≡ length rs
    → walked o w (rs ++ qs) (ls ++ ms) ≡ walked o w rs ls ++ walked o (after_rows w rs ls) qs ms
walked-append o w [] qs [] ms h = refl
walked-append o w [] qs (l ∷ ls) ms h = absurd (omega (arith, h))
walked-append o w (r ∷ rs) qs [] ms h = absurd (omega (arith, h))
walked-append o w (r ∷ rs) qs (l ∷ ls) ms h =
    ap (λ (is : List Item). row_item o w r l ∷ is) (walked-append o (step w r l) rs qs ls ms (omega (arith, h)))

after_rows-append : (w : Walk) (rs qs : List Row) (ls ms : List ℕ) → length ls ≡ length rs
    → after_rows w (rs ++ qs) (ls ++ ms) ≡ after_rows (after_rows w rs ls) qs ms
after_rows-append w [] qs [] ms h = refl
after_rows-append w [] qs (l ∷ ls) ms h = absurd (omega (arith, h))
after_rows-append w (r ∷ rs) qs [] ms h = absurd (omega (arith, h))
after_rows-append w (r ∷ rs) qs (l ∷ ls) ms h = after_rows-append (step w r l) rs qs ls ms (omega (arith, h))

pub length-lens : (d : ℕ) (n : Names) → length (named_lens n) ≡ length (rows d n)
length-lens d nothing = refl
length-lens d (leaf name i after) = ap suc (length-lens d after)
length-lens d (link name i after) = ap suc (length-lens d after)
length-lens d (subdirectory name i own after) =
    ap suc (length-append (named_lens own) (named_lens after)
    ∙ ap (λ (k : ℕ). k + length (named_lens after)) (length-lens (d + 1) own)
    ∙ ap (λ (k : ℕ). length (rows (d + 1) own) + k) (length-lens d after)
    ∙ sym (length-append (rows (d + 1) own) (rows d after)))

-- a list has a length if it has a name
offset_is : (from : ℕ) (own : Names) → offset_by (list_len own) from ≡ list_offset from own
offset_is from nothing = refl
offset_is from (leaf name i after) =
    let e : entry_len name + list_len after ≢ 0 = omega arith in rw (ne_eqb (entry_len name + list_len after) 0 e) refl
offset_is from (link name i after) =
    let e : entry_len name + list_len after ≢ 0 = omega arith in rw (ne_eqb (entry_len name + list_len after) 0 e) refl
offset_is from (subdirectory name i own after) =
    let e : entry_len name + list_len after ≢ 0 = omega arith in rw (ne_eqb (entry_len name + list_len after) 0 e) refl

-- the result of the walk over names at depth d: their items, and the offsets of the lists above are unchanged
pub record Walks (o : Order) (d : ℕ) (w : Walk) (n : Names) : Type 0 where
  pub items : walked o w (rows d n) (named_lens n) ≡ in_preorder o (get_or w.lists d 0) w.state n
  pub state : (after_rows w (rows d n) (named_lens n)).state ≡ after_names w.state n
  pub above : (j : ℕ) → j < d → get_or (after_rows w (rows d n) (named_lens n)).lists j 0 ≡ get_or w.lists j 0
  pub here : get_or (after_rows w (rows d n) (named_lens n)).lists d 0 ≡ get_or w.lists d 0 + list_len n
  pub wide : length (after_rows w (rows d n) (named_lens n)).lists ≡ length w.lists

-- the offsets of the lists after a row at depth d
lists_above : (ls : List ℕ) (r : Row) (d own j : ℕ) → r.depth ≡ d → j < d
    → get_or (lists_with ls r own) j 0 ≡ get_or ls j 0
lists_above ls r d own j e h =
    let x = get_or ls r.depth 0 + entry_len r.name in
    let a : j ≢ r.depth + 1 = omega (arith, e, h) in
    let b : j ≢ r.depth = omega (arith, e, h) in
    get_or-set_other (set ls r.depth x) (r.depth + 1) j own 0 a ∙ get_or-set_other ls r.depth j x 0 b

lists_here : (ls : List ℕ) (r : Row) (d own : ℕ) → r.depth ≡ d → d < length ls
    → get_or (lists_with ls r own) d 0 ≡ get_or ls d 0 + entry_len r.name
lists_here ls r d own e h =
    let x = get_or ls r.depth 0 + entry_len r.name in
    let a : r.depth ≢ r.depth + 1 = omega arith in
    ap (λ (k : ℕ). get_or (lists_with ls r own) k 0) (sym e)
    ∙ get_or-set_other (set ls r.depth x) (r.depth + 1) r.depth own 0 a
    ∙ get_or-set_same ls r.depth x 0 (omega (arith, e, h))
    ∙ ap (λ (k : ℕ). get_or ls k 0 + entry_len r.name) e

lists_own : (ls : List ℕ) (r : Row) (d own : ℕ) → r.depth ≡ d → d + 1 < length ls
    → get_or (lists_with ls r own) (d + 1) 0 ≡ own
lists_own ls r d own e h =
    let x = get_or ls r.depth 0 + entry_len r.name in
    ap (λ (k : ℕ). get_or (lists_with ls r own) (k + 1) 0) (sym e)
    ∙ get_or-set_same (set ls r.depth x) (r.depth + 1) own 0 (omega (arith, e, h, length-set ls r.depth x))

lists_wide : (ls : List ℕ) (r : Row) (own : ℕ) → length (lists_with ls r own) ≡ length ls
lists_wide ls r own =
    let x = get_or ls r.depth 0 + entry_len r.name in
    length-set (set ls r.depth x) (r.depth + 1) own ∙ length-set ls r.depth x

-- a row without a list of its own, in front of others that are walked
single : (o : Order) (d : ℕ) (w : Walk) (r : Row) (len : ℕ) (n : Names) → r.depth ≡ d → d + 1 < length w.lists
    → Walks o d (step w r len) n
    → (walked o w (r ∷ rows d n) (len ∷ named_lens n)
    ≡ row_item o w r len ∷ in_preorder o (get_or w.lists d 0 + entry_len r.name) (state_by w.state len r.what) n)
    × ((after_rows (step w r len) (rows d n) (named_lens n)).state ≡ after_names (state_by w.state len r.what) n)
    × ((j : ℕ) → j < d → get_or (after_rows (step w r len) (rows d n) (named_lens n)).lists j 0 ≡ get_or w.lists j 0)
    × (get_or (after_rows (step w r len) (rows d n) (named_lens n)).lists d 0
    ≡ get_or w.lists d 0 + (entry_len r.name + list_len n))
    × (length (after_rows (step w r len) (rows d n) (named_lens n)).lists ≡ length w.lists)
single o d w r len n e room later =
    let own = pad4 w.state.at in
    let s = state_by w.state len r.what in
    let l = get_or w.lists d 0 in
    let a = entry_len r.name in
    let h : get_or (lists_with w.lists r own) d 0 ≡ l + a = lists_here w.lists r d own e (omega (arith, room)) in
    let f : (l + a) + list_len n ≡ l + (a + list_len n) = omega arith in (
      ap (λ (is : List Item). row_item o w r len ∷ is) (later.items ∙ ap (λ (k : ℕ). in_preorder o k s n) h),
      later.state,
      λ j k. later.above j k ∙ lists_above w.lists r d own j e k,
      later.here ∙ ap (λ (k : ℕ). k + list_len n) h ∙ f,
      later.wide ∙ lists_wide w.lists r own,
    )

pub walks : (o : Order) (d : ℕ) (w : Walk) (n : Names) → d + height n < length w.lists → Walks o d w n
walks o d w nothing room = record { items = refl; state = refl; above = λ j k. refl; here = omega arith; wide = refl }
walks o d w (leaf name i after) room =
    let r = row d name (a_leaf i) in
    let up : length (step w r 0).lists ≡ length w.lists = lists_wide w.lists r (pad4 w.state.at) in
    let s = single o d w r 0 after refl (omega (arith, room))
    (walks o d (step w r 0) after (omega (arith, room, up))) in
    record { items = s.0; state = s.1; above = s.2; here = s.3; wide = s.4 }
walks o d w (link name i after) room =
    let r = row d name (a_link i) in
    let up : length (step w r 0).lists ≡ length w.lists = lists_wide w.lists r (pad4 w.state.at) in
    let s = single o d w r 0 after refl (omega (arith, room))
    (walks o d (step w r 0) after (omega (arith, room, up))) in
    record { items = s.0; state = s.1; above = s.2; here = s.3; wide = s.4 }
walks o d w (subdirectory name i own after) room =
    let r = row d name (a_directory i) in
    let len = list_len own in
    let from = pad4 w.state.at in
    let inside = step w r len in
    let up : length inside.lists ≡ length w.lists = lists_wide w.lists r from in
    let a = walks o (d + 1) inside own (omega (arith, room, up)) in
    let behind = after_rows inside (rows (d + 1) own) (named_lens own) in
    let wide_behind : length behind.lists ≡ length w.lists = a.wide ∙ up in
    let b = walks o d behind after (omega (arith, room, wide_behind)) in
    let l = get_or w.lists d 0 in
    let e = entry_len name in
    let first : get_or inside.lists (d + 1) 0 ≡ from = lists_own w.lists r d from refl (omega (arith, room)) in
    let next : get_or behind.lists d 0 ≡ l + e =
    a.above d (omega arith) ∙ lists_here w.lists r d from refl (omega (arith, room)) in
    let same = length-lens (d + 1) own in
    let joined = walked-append o inside (rows (d + 1) own) (rows d after) (named_lens own) (named_lens after) same in
    let ended = after_rows-append inside (rows (d + 1) own) (rows d after) (named_lens own) (named_lens after) same in
    let s1 = after_list w.state own in
    let item : row_item o w r len ≡ item_of o l name i len (list_offset w.state.at own) 0 0 0 no_bytes =
    ap (λ (k : ℕ). item_of o l name i len k 0 0 0 no_bytes) (offset_is w.state.at own) in
    record {
      items =
          ap (λ (x : Item). x ∷ walked o inside (rows (d + 1) own ++ rows d after)
          (named_lens own ++ named_lens after)) item
          ∙ ap (λ (is : List Item). item_of o l name i len (list_offset w.state.at own) 0 0 0 no_bytes ∷ is) (joined
          ∙ ap (λ (is : List Item). is ++ walked o behind (rows d after) (named_lens after))
          (a.items ∙ ap (λ (k : ℕ). in_preorder o k s1 own) first)
          ∙ ap (λ (is : List Item). in_preorder o from s1 own ++ is)
          (b.items ∙ ap (λ (k : ℕ). in_preorder o k behind.state after) next
          ∙ ap (λ (s : State). in_preorder o (l + e) s after) a.state));
      state = ap (λ (x : Walk). x.state) ended ∙ b.state ∙ ap (λ (s : State). after_names s after) a.state;
      above = λ j k. ap (λ (x : Walk). get_or x.lists j 0) ended ∙ b.above j k ∙ a.above j (omega (arith, k))
          ∙ lists_above w.lists r d from j refl k;
      here = ap (λ (x : Walk). get_or x.lists d 0) ended ∙ b.here ∙ ap (λ (k : ℕ). k + list_len after) next
          ∙ further l e (list_len after);
      wide = ap (λ (x : Walk). length x.lists) ended ∙ b.wide ∙ wide_behind;
    }
  where
    further : (x y z : ℕ) → (x + y) + z ≡ x + (y + z)
    further x y z = omega arith
