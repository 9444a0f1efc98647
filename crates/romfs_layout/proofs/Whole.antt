-- The bytes of a layout have a tree.
use Rattle.std.proofs.Common.{◌≡◌, ◌≢◌, ℕ, ◌+◌, ◌%◌, ◌<◌, ◌≤◌, min, true, false, eqb, List, [], ◌∷◌, length, map, drop}
use Rattle.std.proofs.Common.{refl, sym, ap, subst, ◌∙◌, arith, Some}
use Rattle.std.proofs.lemmas.Bool.{ne_eqb, eq-eqb}
use Rattle.std.proofs.lemmas.List.Elements.{All-from_recursion}
use Rattle.std.specs.List.{AllByRecursion as Every, list_any}
use Rattle.std.specs.Prelude.{◌||◌}
use Rattle.rom_tree.specs.Tree.{depth}
use Rattle.record_forest.specs.declared.reference.Row.{Row}
use Rattle.record_forest.specs.Forest.{Forest, none, at, Stands, rows, all_rows}
use Rattle.record_forest.specs.Members.{Pairs}
use Rattle.record_forest.proofs.Lists.{every_left, every_right, every_weaker, every_map, pairs_to, pairs_weaker}
use Rattle.record_forest.proofs.Lists.{pairs_map, every_both}
use Rattle.romfs_format.specs.Record.{type_of, name_of, first_of, IsSound}
use Rattle.romfs_format.specs.Refers.{references, reference_offset, heads_itself, LeadsToSound, some_offset}
use Rattle.romfs_format.specs.Tree.{IsTree, LeadsWell, listed_rows, tree_of, entries_at, below_root, node_of}
use Rattle.record_forest.specs.Forest.{NamesDiffer}
use Rattle.rom_tree.specs.Dots.{dot, dot_dot, is_dots}
use Rattle.romfs_format.specs.Made.{StandsAt}
use Rattle.record_forest.specs.Forest.{Everywhere}
use Rattle.romfs_format.proofs.Bridge.{root_own, root_after, top_offset, all_targets}
use Rattle.manifest_tree.specs.Names.{Inode, Names}
use Rattle.romfs_layout.specs.Layout.{Header, number_of, code_of, ends, first_place, placed, place_with, headers}
use Rattle.romfs_layout.specs.Layout.{all_headers}
use Rattle.romfs_layout.specs.Reads.{Reads, IsHeader}
use Rattle.romfs_layout.specs.Wells.{IsDirectory, AreWell, AreLinks}
use Rattle.manifest_tree.specs.Files.{files, height}
use Rattle.manifest_tree.specs.Lists.{StandsIn}
use Rattle.romfs_layout.specs.Forest.{offsets, all_offsets, in_row}
use Rattle.romfs_layout.proofs.Places.{first_even}
use Rattle.romfs_layout.proofs.Headers.{Ascend, code_is, headers_ascend, ascend_later}
use Rattle.romfs_layout.proofs.Stands.{says, says_target, first_none, first_some, stands_at, stands_for, all_in_row}
use Rattle.romfs_layout.proofs.Stands.{headers_in_row}
use Rattle.romfs_layout.proofs.Apart.{ascend_low, places_rise, apart}
use Rattle.manifest_tree.proofs.Alike.{every_unmap, pairs_unmap}
use Rattle.romfs_layout.proofs.Named.{all_sound, Located, located, names_differ, head_differs, dot_is_not, no_name}
use Rattle.romfs_layout.proofs.Leads.{IsListed, IsTarget, leads, dots_leads, follow_once}
use Rattle.romfs_layout.proofs.Entries.{made_of, skip, entries_is, node_depth, made_depth}
use Rattle.std.proofs.lemmas.List.{length-map}
use Rattle.romfs_layout.proofs.Files.{files_at, placed_files, led_by}

-- the accessible bytes b, with the root at r, hold these headers
pub record Holds (b : List ℕ) (r : ℕ) (cs : List (List ℕ)) (root : Inode) (n : Names) : Type 0 where
  pub positive : 0 < r
  pub even : r % 16 ≡ 0
  pub directory : IsDirectory root
  pub well : AreWell cs n
  pub links : AreLinks (files n) n
  pub headers : Every (IsHeader cs) (all_headers r root n)
  pub reads : Every (Reads b cs) (all_headers r root n)
  pub within : ends (r + 64) n ≤ length b

pub all_ascend : (r : ℕ) (cs : List (List ℕ)) (root : Inode) (n : Names) → AreWell cs n
    → Ascend r (ends (r + 64) n) (all_headers r root n)
all_ascend r cs root n h =
    let at' = place_with (placed (r + 64) n) in (
      omega arith,
      (
        omega arith,
        ascend_later (r + 32 + 32 + 0) (r + 64) (ends (r + 64) n) (headers at' r (r + 64) n)
            (omega arith) (headers_ascend cs at' r (r + 64) n h),
      ),
    )

all_items_in_row : (r : ℕ) (root : Inode) (n : Names)
    → map (λ (i : Header). i.place) (all_headers r root n) ≡ in_row (all_offsets r n)
all_items_in_row r root n =
    ap (λ (ys : List ℕ). r ∷ (r + 32) ∷ ys) (headers_in_row (place_with (placed (r + 64) n)) r (r + 64) n)

-- P of each offset in a row is P everywhere
everywhere_of : (P : ℕ → Type 0) (f : Forest) → Every P (in_row f) → Everywhere P f
everywhere_of P none h = tt
everywhere_of P (at p own after) h = (
  h.0,
  everywhere_of P own (every_left P (in_row own) (in_row after) h.1),
  everywhere_of P after (every_right P (in_row own) (in_row after) h.1),
)

-- each offset of the rows is listed among them
listed_more : (x : Row) (xs : List Row) (q : ℕ) → IsListed xs q → IsListed (x ∷ xs) q
listed_more x xs q h =
    elim (eqb x.offset q) as (λ t. (t || list_any (λ (y : Row). eqb y.offset q) xs) ≡ true) [ true ↦ refl | false ↦ h ]

listed_self : (xs : List Row) → Every (λ (x : Row). IsListed xs x.offset) xs
listed_self [] = tt
listed_self (x ∷ xs) = (
  rw (eq-eqb x.offset x.offset refl) refl,
  every_weaker (λ (y : Row). IsListed xs y.offset) (λ (y : Row). IsListed (x ∷ xs) y.offset)
      (λ y h. listed_more x xs y.offset h) xs (listed_self xs),
)

-- the forest of a layout makes a tree
pub is_tree : (b : List ℕ) (r : ℕ) (cs : List (List ℕ)) (root : Inode) (n : Names) (most deepest : ℕ)
    → Holds b r cs root n → length (all_headers r root n) ≤ most → height n ≤ min deepest 64
    → IsTree b r most deepest (all_offsets r n)
    × (tree_of b r (all_offsets r n) ≡ node_of b r (made_of b (place_with (placed (r + 64) n)) (r + 64) n))
    × (heads_itself b r ≡ true)
unfolding heads_itself listed_rows tree_of
is_tree b r cs root n most deepest h few shallow =
    let at' = place_with (placed (r + 64) n) in
    let g = references b r in
    let own_headers = headers at' r (r + 64) n in
    let is = all_headers r root n in
    let live : r ≢ 0 = λ z. let p = h.positive in absurd (omega (arith, z)) in
    let c = code_is root in
    let even = h.even in
    let reads = h.reads in
    let e0 = first_even cs (r + 64) n h.well in
    let s0 = says b r (r + 32) (code_of root) reads.0.word (omega arith) c.small in
    let kind : type_of b r ≡ 1 = s0.kind ∙ c.kind ∙ ap number_of h.directory.kind in
    let first : first_of b r ≡ r = first_some b r kind ∙ says_target b r r reads.0.spec even in
    let heads : heads_itself b r ≡ true = eq-eqb (first_of b r) r first in
    let s1 = says b (r + 32) (first_place (r + 64) n) 0 (reads.1.0.word ∙ omega arith) e0 (omega arith) in
    let inner = stands_at b cs at' r (r + 64) n h.well (omega arith) reads.1.1 in
    let rest_forest = at (r + 32) none (offsets (r + 64) n) in
    let list : StandsAt b (r + 32) rest_forest = (
      omega arith,
      refl,
      first_none b (r + 32) 0 s1.kind (λ z. absurd (omega arith)),
      subst (λ (v : ℕ). StandsAt b v (offsets (r + 64) n)) (sym s1.next) inner,
    ) in
    let f = at r none rest_forest in
    let up = all_ascend r cs root n h.well in
    let away : Everywhere (λ p. p ≢ r) rest_forest =
    everywhere_of (λ p. p ≢ r) rest_forest
    (subst (Every (λ p. p ≢ r)) (ap (λ (ys : List ℕ). (r + 32) ∷ ys) (headers_in_row at' r (r + 64) n))
    (every_map (λ (i : Header). i.place) (λ p. p ≢ r) (drop 1 is)
    (every_weaker (λ (i : Header). r + 32 + 0 ≤ i.place) (λ (i : Header). i.place ≢ r)
    (λ i l z. absurd (omega (arith, z))) (drop 1 is)
    (ascend_low (r + 32 + 0) (ends (r + 64) n) (drop 1 is) up.1)))) in
    let own_is : reference_offset b r (g.own g.top) ≡ 0 =
    ap (λ (v : ℕ). reference_offset b r (record { source = v; which = 0 })) (top_offset b r)
    ∙ root_own b r true heads live in
    let after_is : reference_offset b r (g.after g.top) ≡ r + 32 =
    ap (λ (v : ℕ). reference_offset b r (record { source = v; which = 1 })) (top_offset b r)
    ∙ root_after b r true heads live ∙ s0.next in
    let some_r : some_offset r ≡ Some r = rw (ne_eqb r 0 live) refl in
    let stands : Stands g g.top f = (
      ap some_offset (top_offset b r) ∙ some_r,
      ap some_offset own_is,
      stands_for b r (g.after g.top) rest_forest
          (subst (λ (v : ℕ). StandsAt b v rest_forest) (sym after_is) list) away,
    ) in
    let all = all_rows g f in
    let same : map (λ (y : Row). y.offset) all ≡ map (λ (i : Header). i.place) is =
    all_in_row b r f ∙ sym (all_items_in_row r root n) in
    let sounds : Every (λ (x : Row). IsSound b r x.offset) all =
    every_unmap (λ (y : Row). y.offset) (IsSound b r) all
    (subst (Every (IsSound b r)) (sym same)
    (every_map (λ (i : Header). i.place) (IsSound b r) is
    (all_sound b cs r r (ends (r + 64) n) is reads h.headers (omega arith) up h.within))) in
    let targets = all_targets b r f stands in
    let sound : Every (λ (x : Row). LeadsToSound b r x.reference) all =
    every_weaker (λ (x : Row). IsSound b r x.offset × (reference_offset b r x.reference ≡ x.offset))
    (λ (x : Row). LeadsToSound b r x.reference) (λ x k. subst (IsSound b r) (sym k.1) k.0) all
    (every_both (λ (x : Row). IsSound b r x.offset)
    (λ (x : Row). reference_offset b r x.reference ≡ x.offset) all sounds targets) in
    let single : Pairs (λ (x y : Row). x.offset ≢ y.offset) all =
    pairs_unmap (λ (y : Row). y.offset) (λ p q. p ≢ q) all
    (subst (Pairs (λ p q. p ≢ q)) (sym same) (pairs_map (λ (i : Header). i.place) (λ p q. p ≢ q) is
    (pairs_weaker (λ (i j : Header). i.place < j.place) (λ (i j : Header). i.place ≢ j.place)
    (λ i j l z. absurd (omega (arith, z))) is (places_rise r (ends (r + 64) n) is up)))) in
    let count : length all ≡ length is =
    sym (length-map all (λ (y : Row). y.offset)) ∙ ap length same ∙ length-map is (λ (i : Header). i.place) in
    let listed : Every (λ (i : Header). IsListed all i.place) is =
    every_unmap (λ (i : Header). i.place) (IsListed all) is
    (subst (Every (IsListed all)) same (every_map (λ (y : Row). y.offset) (IsListed all) all (listed_self all))) in
    let target : IsTarget b all r =
    record { even = even; listed = listed.0; live = λ z. absurd (omega (arith, kind, z)) } in
    let led = led_by b cs all (placed (r + 64) n) n h.well
    (subst (λ (js : List Inode). AreLinks js n) (sym (placed_files (r + 64) n)) h.links)
    (files_at b cs (IsListed all) at' r (r + 64) n h.well reads.1.1 listed.1.1) in
    let x1 = g.after g.top in
    let x2 = g.after x1 in
    let row0 : Row = record { offset = r; reference = g.top; directory = r; parent = r; depth = 0 } in
    let row1 : Row = record { offset = r + 32; reference = x1; directory = r; parent = r; depth = 1 } in
    let rest = rows g x2 r r 1 (offsets (r + 64) n) in
    let found = located b r cs at' x2 r r 1 (r + 64) n h.well reads.1.1 in
    let dot_alone = subst (λ (m : List ℕ). StandsIn m n → ⊥) (sym reads.0.name) (no_name cs dot n refl h.well) in
    let dots_alone = subst (λ (m : List ℕ). StandsIn m n → ⊥) (sym reads.1.0.name) (no_name cs dot_dot n refl h.well) in
    let dots : NamesDiffer (name_of b) row0 row1 =
    λ _ eq. absurd (dot_is_not (sym reads.0.name ∙ eq ∙ reads.1.0.name)) in
    let head0 = every_weaker (Located b r (r + 64) n) (NamesDiffer (name_of b) row0)
    (λ y k. head_differs b row0 y r (r + 64) n refl (omega arith) dot_alone k) rest found in
    let head1 = every_weaker (Located b r (r + 64) n) (NamesDiffer (name_of b) row1)
    (λ y k. head_differs b row1 y r (r + 64) n refl (omega arith) dots_alone k) rest found in
    let differ : Pairs (NamesDiffer (name_of b)) all =
    ((dots, head0), (head1, names_differ b r cs at' x2 r r 1 (r + 64) n h.well (omega arith) reads.1.1)) in
    let f1 = follow_once b all (r + 32) r s1.kind (says_target b (r + 32) r reads.1.0.spec even) target in
    let lead : Every (LeadsWell b all) (drop 1 all) = (
      dots_leads b all row1 reads.1.0.name f1,
      leads b r cs at' all x2 r r 1 (r + 64) n h.well led target reads.1.1 listed.1.1,
    ) in
    let es = made_of b at' (r + 64) n in
    let entries : entries_at b (below_root b r f) ≡ es =
    rw heads (skip b (r + 32) none (offsets (r + 64) n) (ap is_dots reads.1.0.name)
    ∙ entries_is b cs all at' r (r + 64) n h.well led reads.1.1) in
    let tree : tree_of b r f ≡ node_of b r es = ap (node_of b r) entries in
    let d1 = node_depth b r es in
    let d2 = made_depth b at' (r + 64) n in
    let d3 : depth (tree_of b r f) ≡ depth (node_of b r es) = ap depth tree in (
      record {
        forest = record {
          stands = stands;
          sound = All-from_recursion (λ (x : Row). LeadsToSound b r x.reference) all sound;
          single = pairs_to (λ (x y : Row). x.offset ≢ y.offset) all single;
          few = omega (arith, count);
        };
        shallow = omega (arith, d1, d2, d3);
        apart = λ p o. apart b cs r (ends (r + 64) n) is all p reads up same o;
        names = rw heads (pairs_to (NamesDiffer (name_of b)) all differ);
        leads = All-from_recursion (LeadsWell b all) (drop 1 all) lead;
        leaf = λ _. reads.0.name;
      },
      tree,
      heads,
    )
