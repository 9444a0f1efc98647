-- The bytes of a layout have a tree.
use Rattle.std.proofs.Common.{◌≡◌, ◌≢◌, ℕ, suc, ◌+◌, ◌^◌, ◌<◌, ◌≤◌, min, true, false, ◌⊎◌, List, [], ◌∷◌, ◌++◌, length}
use Rattle.std.proofs.Common.{length-append, drop, refl, sym, ap, subst, ◌∙◌, arith, inl, inr, Some, None}
use Rattle.std.proofs.lemmas.Bool.{false≢true, ne_eqb, eq-eqb, le-ltb}
use Rattle.std.proofs.lemmas.Bool.Decides.{eqb_tells}
use Rattle.std.proofs.lemmas.List.{append-nil}
use Rattle.std.proofs.lemmas.List.Elements.{All-from_recursion}
use Rattle.std.specs.List.{AllByRecursion as Every, flat_map}
use Rattle.rom_fields.specs.declared.span.Extent.TheVariants.{Super, List as ListOf}
use Rattle.rom_fields.specs.declared.span.Span.{Span}
use Rattle.rom_fields.specs.Extents.{OverlapsAt, added}
use Rattle.rom_tree.specs.Tree.{Entries, entries_depth, body_depth, depth, directory, regular, symlink, block}
use Rattle.rom_tree.specs.Tree.{character, socket, fifo}
use Rattle.record_forest.specs.declared.reference.Reference.{Reference}
use Rattle.record_forest.specs.declared.reference.Row.{Row}
use Rattle.record_forest.specs.Forest.{Forest, none, at, Stands, rows, all_rows}
use Rattle.record_forest.specs.Members.{Has, Pairs}
use Rattle.record_forest.proofs.Lists.{every_join, every_weaker, every_of, pairs_to, pairs_weaker, has_left, has_right}
use Rattle.record_forest.proofs.Spans.{every_flat}
use Rattle.cramfs_format.specs.Order.{word}
use Rattle.cramfs_format.specs.declared.order.Order.{Order}
use Rattle.cramfs_format.specs.Inode.{type_of, size_of, offset_of, name_of, name_room, end_of, list_start, has_kinds}
use Rattle.cramfs_format.specs.Inode.{has_data}
use Rattle.cramfs_format.specs.Refers.{references, reference_target, LeadsToSound}
use Rattle.cramfs_format.specs.Tree.{IsTree, IsNoDot, NamesRise, precedes, row_extents, extents_of, node_of, tree_of}
use Rattle.cramfs_format.specs.Tree.{entries_at, places_at, kind_numbers}
use Rattle.record_forest.specs.Forest.{NamesDiffer}
use Rattle.rom_tree.proofs.ByKind.{by_kind_map, by_kind_directory, by_kind_rest}
use Rattle.cramfs_format.proofs.Spans.{ListsApart, row_every}
use Rattle.rom_tree.specs.Dots.{is_dots}
use Rattle.rom_fields.specs.Parts.{HasParts}
use Rattle.manifest_tree.specs.Names.{Inode, Names, nothing, leaf, link, subdirectory}
use Rattle.manifest_tree.specs.Files.{height}
use Rattle.rom_fields.proofs.Climbs.{Climbs, climbs_later, climbs_added}
use Rattle.cramfs_layout.specs.Layout.{pad4, entry_len, list_len, root_offset, count, first_state, State, after_file}
use Rattle.cramfs_layout.specs.Layout.{after_list, after_names, parts}
use Rattle.cramfs_layout.specs.Wells.{AreWell, AllRead}
use Rattle.cramfs_layout.specs.Forest.{spots}
use Rattle.cramfs_layout.proofs.Stored.{names_onward}
use Rattle.cramfs_layout.proofs.Stands.{stands, directory_list, target_none}
use Rattle.cramfs_layout.proofs.Named.{Located, located, Apart, all_apart}
use Rattle.cramfs_layout.proofs.Bodies.{all_sound}
use Rattle.cramfs_layout.proofs.Extents.{spans, spans_climb, climbs_disjoint, no_overlap}
use Rattle.cramfs_layout.proofs.Known.{lists_in, HasListIn, lists_apart, known, added_known}

precedes_self : (a : List ℕ) → precedes a a ≡ false
precedes_self [] = refl
precedes_self (x ∷ xs) = rw (le-ltb x x (omega arith), eq-eqb x x refl) (precedes_self xs)

differ_by : (o : Order) (b : List ℕ) (x y : Row) → NamesRise o b x y → NamesDiffer (name_of o b) x y
differ_by o b x y r = λ d e. absurd (false≢true
    (sym (precedes_self (name_of o b y.offset))
    ∙ (ap (λ (m : List ℕ). precedes m (name_of o b y.offset)) (sym e) ∙ r d)))

no_dot_by : (o : Order) (b : List ℕ) (y : Row) (name : List ℕ) → name_of o b y.offset ≡ name → is_dots name ≡ false
    → IsNoDot o b y
no_dot_by o b y name e d = record {
  here = λ z. absurd (false≢true (sym d ∙ ap is_dots (sym e ∙ z)));
  above = λ z. absurd (false≢true (sym d ∙ ap is_dots (sym e ∙ z)));
}

no_dots : (o : Order) (b : List ℕ) (cs : List (List ℕ)) (high : ℕ) (x : Reference) (d up deep l : ℕ) (s : State)
    (n : Names)
    → AreWell cs n → AllRead o b cs high l s n → Every (IsNoDot o b) (rows (references o b) x d up deep (spots l s n))
no_dots o b cs high x d up deep l s nothing h r = tt
no_dots o b cs high x d up deep l s (leaf name i rest) h r =
    let g = references o b in (
      no_dot_by o b (record {
        offset = l;
        reference = x;
        directory = d;
        parent = up;
        depth = deep;
      }) name r.0.name_is h.0.0.no_dots,
      no_dots o b cs high (g.after x) d up deep (l + entry_len name) (after_file s i) rest h.2 r.2,
    )
no_dots o b cs high x d up deep l s (link name i rest) h r = absurd h
no_dots o b cs high x d up deep l s (subdirectory name i own rest) h r =
    let g = references o b in
    let s1 = after_list s own in (
      no_dot_by o b (record {
        offset = l;
        reference = x;
        directory = d;
        parent = up;
        depth = deep;
      }) name r.0.name_is h.0.0.no_dots,
      every_join (IsNoDot o b) (rows g (g.own x) l d (deep + 1) (spots (pad4 s.at) s1 own))
          (rows g (g.after x) d up deep (spots (l + entry_len name) (after_names s1 own) rest))
          (no_dots o b cs high (g.own x) l d (deep + 1) (pad4 s.at) s1 own h.2 r.1)
          (no_dots o b cs high (g.after x) d up deep (l + entry_len name) (after_names s1 own) rest h.3 r.2),
    )

row_count : (o : Order) (b : List ℕ) (x : Reference) (d up deep l : ℕ) (s : State) (n : Names)
    → length (rows (references o b) x d up deep (spots l s n)) ≡ count n
row_count o b x d up deep l s nothing = refl
row_count o b x d up deep l s (leaf name i rest) =
    ap suc (row_count o b ((references o b).after x) d up deep (l + entry_len name) (after_file s i) rest)
row_count o b x d up deep l s (link name i rest) =
    ap suc (row_count o b ((references o b).after x) d up deep (l + entry_len name) (after_file s i) rest)
row_count o b x d up deep l s (subdirectory name i own rest) =
    let g = references o b in
    let s1 = after_list s own in
    let mine = rows g (g.own x) l d (deep + 1) (spots (pad4 s.at) s1 own) in
    let theirs = rows g (g.after x) d up deep (spots (l + entry_len name) (after_names s1 own) rest) in
    let a = row_count o b (g.own x) l d (deep + 1) (pad4 s.at) s1 own in
    let c = row_count o b (g.after x) d up deep (l + entry_len name) (after_names s1 own) rest in
    omega (arith, length-append mine theirs, a, c)

node_depth : (o : Order) (b : List ℕ) (p : ℕ) (es : Entries) → depth (node_of o b p es) ≤ entries_depth es
unfolding node_of
node_depth o b p es =
    let t = type_of o b p in
    let ps = places_at o b p in
    let e = by_kind_map body_depth kind_numbers t (directory es) (regular ps)
    (symlink ps) block character socket fifo in
    elim (eqb_tells t 4) [
      | inl k ↦ let f = e ∙ by_kind_directory kind_numbers t (entries_depth es) 0 0 0 0 0 0 k.1 in omega (arith, f)
      | inr k ↦ let f = e ∙ by_kind_rest kind_numbers t (entries_depth es) 0 k.1 in omega (arith, f)
    ]

spots_depth : (o : Order) (b : List ℕ) (l : ℕ) (s : State) (n : Names)
    → entries_depth (entries_at o b (spots l s n)) ≤ height n
spots_depth o b l s nothing = omega arith
spots_depth o b l s (leaf name i rest) =
    let d = node_depth o b l (entries_at o b none) in
    let e = spots_depth o b (l + entry_len name) (after_file s i) rest in
    omega (arith, d, e)
spots_depth o b l s (link name i rest) =
    let d = node_depth o b l (entries_at o b none) in
    let e = spots_depth o b (l + entry_len name) (after_file s i) rest in
    omega (arith, d, e)
spots_depth o b l s (subdirectory name i own rest) =
    let s1 = after_list s own in
    let d = node_depth o b l (entries_at o b (spots (pad4 s.at) s1 own)) in
    let c = spots_depth o b (pad4 s.at) s1 own in
    let e = spots_depth o b (l + entry_len name) (after_names s1 own) rest in
    omega (arith, c, d, e)

-- the accessible bytes hold the entries of the layout, the root's behind the superblock
pub record Holds (o : Order) (b : List ℕ) (cs : List (List ℕ)) (root : Inode) (n : Names) : Type 0 where
  pub flag : has_kinds (word o b 8) ≡ true
  pub kind : type_of o b 64 ≡ 4
  pub offset_is : offset_of o b 64 ≡ root_offset n
  pub size_is : size_of o b 64 ≡ list_len n
  pub well : AreWell cs n
  pub reads : AllRead o b cs (after_names (first_state n) n).at 76 (first_state n) n
  pub has : HasParts b (parts o cs (first_state n) n)
  pub within : (after_names (first_state n) n).at ≤ length b
  pub room : (after_names (first_state n) n).at ≤ 2 ^ 28

pub root_placed : (n : Names) → (n ≡ nothing) ⊎ (root_offset n ≡ 76)
root_placed nothing = inl refl
root_placed (leaf name i after) = inr refl
root_placed (link name i after) = inr refl
root_placed (subdirectory name i own after) = inr refl

-- nothing is behind the root
none_after : (o : Order) (b : List ℕ) (k : ℕ) → reference_target o b (record { source = 0; which = 64 + 12 + k }) ≡ None
unfolding reference_target
none_after o b k = rw (ne_eqb (64 + 12 + k) 64 (λ z. absurd (omega (arith, z)))) refl

target_top : (o : Order) (b : List ℕ) → reference_target o b (record { source = 0; which = 64 }) ≡ Some 64
unfolding reference_target
target_top o b = refl

root_alive : ◌≡◌ {A = ℕ} 64 0 → ⊥
root_alive z = absurd (omega (arith, z))

-- the root's list is known
root_known : (o : Order) (b : List ℕ) (cs : List (List ℕ)) (root : Inode) (n : Names) → Holds o b cs root n
    → (Q : Span → Type 0) → Every Q (added ListOf 76 (list_len n))
    → Every Q (row_extents o b (record
    { offset = 64; reference = (references o b).top; directory = 64; parent = 64; depth = 0 }))
root_known o b cs root n h Q q =
    row_every Q o b (record { offset = 64; reference = (references o b).top; directory = 64; parent = 64; depth = 0 })
    (λ _ z. elim (root_placed n) [
      | inl w ↦ let v : list_len n ≡ 0 = ap list_len w in let u = h.size_is in absurd (omega (arith, z, v, u))
      | inr w ↦ added_known Q 76 (list_len n) (offset_of o b 64) (size_of o b 64) (h.offset_is ∙ w) h.size_is z q
    ])
    (λ z. absurd (false≢true (sym (ap has_data h.kind) ∙ z)))

abbrev pub all_spots : Names → Forest
all_spots n = at 64 (spots 76 (first_state n) n) none

pub is_tree : (o : Order) (b : List ℕ) (cs : List (List ℕ)) (root : Inode) (n : Names) (most deepest : ℕ)
    → Holds o b cs root n → suc (count n) ≤ most → height n ≤ min deepest 64
    → IsTree o b most deepest (all_spots n)
unfolding list_start end_of tree_of
is_tree o b cs root n most deepest h few shallow =
    let g = references o b in
    let s = first_state n in
    let high = (after_names s n).at in
    let within = h.within in
    let room = h.room in
    let live = root_alive in
    let f = at 64 (spots 76 s n) none in
    let list = directory_list o b 64 (root_offset n) (list_len n) h.kind h.offset_is h.size_is in
    let mine : Stands g (record { source = 64; which = offset_of o b 64 }) (spots 76 s n) = elim (root_placed n) [
      | inl z ↦ subst (λ (m : Names). Stands g (record { source = 64; which = offset_of o b 64 })
          (spots 76 (first_state m) m)) (sym z)
          (target_none o b 64 (offset_of o b 64) live
          (let y : list_len n ≡ 0 = ap list_len z in let x = h.offset_is in omega (arith, list, y, x)))
      | inr z ↦ subst (λ (v : ℕ). Stands g (record { source = 64; which = v }) (spots 76 s n)) (sym (h.offset_is ∙ z))
          (stands o b cs high 64 76 s n h.well h.reads live (omega arith) (omega arith) (omega (arith, list, z)))
    ] in
    let after : reference_target o b (record { source = 0; which = 64 + 12 + name_room o b 64 }) ≡ None =
    none_after o b (name_room o b 64) in
    let x = g.own g.top in
    let xs = rows g x 64 64 1 (spots 76 s n) in
    let row0 : Row = record { offset = 64; reference = g.top; directory = 64; parent = 64; depth = 0 } in
    let all : all_rows g f ≡ row0 ∷ xs = ap (λ (ys : List Row). row0 ∷ ys) (append-nil xs) in
    let lies : 0 < size_of o b 64 → (76 ≤ offset_of o b 64) × (offset_of o b 64 + size_of o b 64 ≤ length b) =
    λ k. elim (root_placed n) [
      | inl z ↦ let y : list_len n ≡ 0 = ap list_len z in let w = h.size_is in absurd (omega (arith, k, y, w))
      | inr z ↦ let a = h.offset_is in let c = h.size_is in let e =
          names_onward cs s n h.well in (omega (arith, a, z), omega (arith, a, c, z, e, within))
    ] in
    let sounds : Every (λ (y : Row). LeadsToSound o b y.reference) xs = elim (root_placed n) [
      | inl z ↦ subst (λ (m : Names). Every (λ (y : Row). LeadsToSound o b y.reference)
          (rows g x 64 64 1 (spots 76 (first_state m) m))) (sym z) tt
      | inr z ↦ all_sound o b cs high x 64 64 1 76 s n h.well h.reads h.flag within room (omega arith)
          (omega arith) refl (h.offset_is ∙ z) live (omega arith) (omega (arith, list, z))
    ] in
    let sound : Every (λ (y : Row). LeadsToSound o b y.reference) (row0 ∷ xs) =
    (record { root = λ _ _. lies; entry = λ z. absurd (z refl) }, sounds) in
    let found = located o b cs high x 64 64 1 76 s n h.well h.reads (omega arith) in
    let apart = all_apart o b cs high x 64 64 1 76 s n h.well h.reads (omega arith) (omega arith) in
    let single : Pairs (λ (y z : Row). y.offset ≢ z.offset) (row0 ∷ xs) = (
      every_weaker (Located o b 64 76 (76 + list_len n) s.at high n) (λ (y : Row). 64 ≢ y.offset)
          (λ y k z. elim k [
            | inl w ↦ let u = w.0 in absurd (omega (arith, z))
            | inr w ↦ let u = w.0 in absurd
                (omega (arith, z))
          ]) xs found,
      pairs_weaker (Apart o b) (λ (y z : Row). y.offset ≢ z.offset) (λ y z k. k.0) xs apart,
    ) in
    let rise : Pairs (NamesRise o b) xs = pairs_weaker (Apart o b) (NamesRise o b) (λ y z k. k.1) xs apart in
    let differ : Pairs (NamesDiffer (name_of o b)) xs =
    pairs_weaker (NamesRise o b) (NamesDiffer (name_of o b)) (differ_by o b) xs rise in
    let counted = row_count o b x 64 64 1 76 s n in
    let ps = added Super 0 76 ++ (added ListOf 76 (list_len n) ++ spans s n) in
    let c0 = spans_climb cs s n h.well in
    let c1 : Climbs 0 high ps = climbs_added Super 0 0 76 high (added ListOf 76 (list_len n) ++ spans s n) (omega arith)
    (climbs_later (0 + 76) 76 high (added ListOf 76 (list_len n) ++ spans s n) (omega arith)
    (climbs_added ListOf 76 76 (list_len n) high (spans s n) (omega arith) c0)) in
    let disjoint = climbs_disjoint 0 high ps c1 in
    let Q : Span → Type 0 = λ e. Has (λ z. z ≡ e) ps in
    let q_super : Every Q (added Super 0 76) = (inl refl, tt) in
    let q_list : Every Q (added ListOf 76 (list_len n)) =
    every_of Q (added ListOf 76 (list_len n))
    (λ e k. inr (has_left (λ z. z ≡ e) (added ListOf 76 (list_len n)) (spans s n) k)) in
    let q_spans : Every Q (spans s n) =
    every_of Q (spans s n) (λ e k. inr (has_right (λ z. z ≡ e) (added ListOf 76 (list_len n)) (spans s n) k)) in
    let rest = (known o b cs Q high x 64 64 1 76 s n h.well h.reads room h.has q_spans tt).rows_known in
    let head : Every Q (row_extents o b row0) = root_known o b cs root n h Q q_list in
    let among : Every Q (extents_of o b (row0 ∷ xs)) =
    every_join Q (added Super 0 76) (flat_map (row_extents o b) (row0 ∷ xs)) q_super
    (every_flat Q (λ y. Every Q (row_extents o b y)) (row_extents o b) (λ y k. k) (row0 ∷ xs) (head, rest)) in
    let lists : Pairs (ListsApart o b) (row0 ∷ xs) = (
      every_weaker (HasListIn o b s.at high) (ListsApart o b row0) (λ y k ty ty' z e z'. elim (root_placed n) [
        | inl w ↦ let v : list_len n ≡ 0 = ap list_len w in let u = h.size_is in absurd (omega (arith, z, v, u))
        | inr w ↦ let u =
            (k ty' z').0 in let v = h.offset_is in let t = h.size_is in absurd (omega (arith, e, v, w, u, z, t))
      ]) xs (lists_in o b cs high x 64 64 1 76 s n h.well h.reads),
      lists_apart o b cs high x 64 64 1 76 s n h.well h.reads,
    ) in
    let es = entries_at o b (spots 76 s n) in
    let node_deep = node_depth o b 64 es in
    let spots_deep = spots_depth o b 76 s n in
    record {
      forest = record {
        stands = (target_top o b, mine, after);
        sound = All-from_recursion (λ (y : Row). LeadsToSound o b y.reference) (all_rows g f)
            (subst (Every (λ (y : Row). LeadsToSound o b y.reference)) (sym all) sound);
        single = pairs_to (λ (y z : Row). y.offset ≢ z.offset) (all_rows g f)
            (subst (Pairs (λ (y z : Row). y.offset ≢ z.offset)) (sym all) single);
        few = let e = ap length all in omega (arith, e, counted);
      };
      shallow = omega (arith, node_deep, spots_deep);
      apart = λ p over. no_overlap o b (row0 ∷ xs) ps p lists disjoint among
          (subst (λ (ys : List Row). OverlapsAt (extents_of o b ys) p) all over);
      names = pairs_to (NamesDiffer (name_of o b)) (drop 1 (all_rows g f))
          (subst (λ (ys : List Row). Pairs (NamesDiffer (name_of o b)) (drop 1 ys)) (sym all) differ);
      no_dots = All-from_recursion (IsNoDot o b) (drop 1 (all_rows g f))
          (subst (λ (ys : List Row). Every (IsNoDot o b) (drop 1 ys)) (sym all)
          (no_dots o b cs high x 64 64 1 76 s n h.well h.reads));
      rising = λ _. pairs_to (NamesRise o b) (drop 1 (all_rows g f))
          (subst (λ (ys : List Row). Pairs (NamesRise o b) (drop 1 ys)) (sym all) rise);
    }
