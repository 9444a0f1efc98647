-- In cramfs the bytes of each file with the contents of a source are where a section of the plan is.
use Rattle.std.proofs.Common.{◌≡◌, ◌≢◌, ℕ, ◌+◌, ◌*◌, ◌%◌, ◌^◌, ◌<◌, ◌≤◌, List, [], ◌++◌, length, drop}
use Rattle.std.proofs.Common.{Some, inr, refl, sym, ap, subst, ◌∙◌, arith, length-append}
use Rattle.std.proofs.lemmas.List.{length-drop}
use Rattle.std.specs.List.{AllByRecursion as Every}
use Rattle.record_forest.specs.Members.{Has}
use Rattle.record_forest.proofs.Lists.{every_both, every_join, every_left, every_of, every_right, has_of}
use Rattle.rom_tree.specs.declared.types.Kind.{Kind}
use Rattle.rom_tree.specs.declared.types.Kind.TheVariants.{Directory, Regular}
use Rattle.rom_tree.specs.Tree.{Entries, Node, places_of, row_from}
use Rattle.rom_tree.proofs.ByKind.{body_places_is}
use Rattle.cramfs_format.specs.Order.{word}
use Rattle.cramfs_format.specs.declared.order.Order.{Order}
use Rattle.cramfs_format.specs.Inode.{block_count, offset_of, size_of, type_of}
use Rattle.cramfs_format.specs.Tree.{blocks_from, by_type, kind_numbers, node_of, places_at, tree_of}
use Rattle.rom_fields.specs.Parts.{HasAt}
use Rattle.manifest_tree.specs.Files.{Placed, at_place}
use Rattle.manifest_tree.specs.Items.{Item, Section, contents_of, section}
use Rattle.manifest_tree.specs.Names.{Inode, Names, bytes_of, leaf, link, nothing, source, subdirectory}
use Rattle.manifest_tree.specs.Shape.{file_under, node_under, with_names}
use Rattle.manifest_tree.proofs.Alike.{alike_some}
use Rattle.cramfs_layout.specs.Items.{AreAlignedBy, below, entries, items_of, sections_of, start_by}
use Rattle.cramfs_layout.specs.Layout.{Kept, State, after_file, after_list, after_names, entry_len, first_state}
use Rattle.cramfs_layout.specs.Layout.{fresh, kept, layout, nowhere, pad4, pointers, shared, size_by, type_bits}
use Rattle.cramfs_layout.specs.Planned.{IsPlanned}
use Rattle.cramfs_layout.specs.Wells.{AllRead, AreWell, IsFile}
use Rattle.cramfs_layout.proofs.Filled.{FilledAt, IsFilled, are_filled}
use Rattle.cramfs_layout.proofs.Image.{is_image}
use Rattle.cramfs_layout.proofs.Paths.{IsEnd, IsGood, a_directory, a_file, placed}
use Rattle.cramfs_layout.proofs.Shaped.{IsOne, ends_alike}
use Rattle.cramfs_layout.proofs.Sound.{pointer_at, pointer_says}
use Rattle.cramfs_layout.proofs.Stored.{data_after}
use Rattle.cramfs_layout.proofs.Tabled.{IsBare, below_bare, entries_bare}
use Rattle.cramfs_layout.proofs.Values.{IsAt, one_run}
use Rattle.cramfs_layout.proofs.Whole.{all_spots}
use Rattle.headline.proofs.Owned.{IsOwned, Own, are_owned, no_source, owns, owns_rise, some}
use Rattle.headline.proofs.Sections.{IsAtSection, all_in_sections}

-- the bytes of an item are a section
abbrev InPlan : List Section → Item → Type 0
InPlan ss i = i.len ≢ 0 → (k : ℕ) → i.fill ≡ source k → Has (λ z. z ≡ section i.start i.len (contents_of k)) ss

-- the table of a file points to blocks that are a section
abbrev IsPlannedAt : Order → List ℕ → List (List ℕ) → List Section → Placed → Type 0
IsPlannedAt o b cs ss x =
    x.inode.size ≢ 0 → (k : ℕ) → x.inode.fill ≡ source k
    → (d : ℕ) × (d % 4 ≡ 0) × FilledAt o cs b (offset_of o b x.place) d x.inode.fill
    × Has (λ z. z ≡ section d x.inode.size (contents_of k)) ss

start_four : (cs : List (List ℕ)) (k : Kept) (from : ℕ) (i : Inode) → IsFile cs i → start_by k from i % 4 ≡ 0
start_four cs nowhere from i h = refl
start_four cs (shared t) from i h = (data_after cs t i h).1
start_four cs fresh from i h = (data_after cs from i h).1

files_planned : (o : Order) (b : List ℕ) (cs : List (List ℕ)) (ss : List Section) (high l : ℕ) (s : State) (n : Names)
    → AreWell cs n → AllRead o b cs high l s n → Every (λ i. IsFilled o cs b i × InPlan ss i) (entries o l s n)
    → Every (λ i. IsFilled o cs b i × InPlan ss i) (below o s n) → Every (IsPlannedAt o b cs ss) (placed l s n)
files_planned o b cs ss high l s nothing h r e u = tt
files_planned o b cs ss high l s (leaf name i rest) h r e u =
    let k = kept s.tables i in
    let d = start_by k s.at i in (
      (λ z j f. (
        d,
        start_four cs k s.at i h.1,
        subst (λ (t : ℕ). FilledAt o cs b t d i.fill) (sym r.0.offset_is) (e.0.0 z).1,
        e.0.1 z j f,
      )),
      files_planned o b cs ss high (l + entry_len name) (after_file s i) rest h.2 r.2 e.1 u,
    )
files_planned o b cs ss high l s (link name i rest) h r e u = absurd h
files_planned o b cs ss high l s (subdirectory name i own rest) h r e u =
    let s1 = after_list s own in
    let s2 = after_names s1 own in
    let F : Item → Type 0 = λ i. IsFilled o cs b i × InPlan ss i in
    let own_items = entries o (pad4 s.at) s1 own in
    let under = below o s1 own in
    let later = below o s2 rest in
    let both = every_right F own_items (under ++ later) u in (
      (λ z j f. no_source i ((d : ℕ) × (d % 4 ≡ 0) × FilledAt o cs b (offset_of o b l) d i.fill
          × Has (λ z. z ≡ section d i.size (contents_of j)) ss) h.1.bytes f),
      every_join (IsPlannedAt o b cs ss) (placed (pad4 s.at) s1 own) (placed (l + entry_len name) s2 rest)
          (files_planned o b cs ss high (pad4 s.at) s1 own h.2 r.1 (every_left F own_items (under ++ later) u)
          (every_left F under later both))
          (files_planned o b cs ss high (l + entry_len name) s2 rest h.3 r.2 e.1 (every_right F under later both)),
    )

-- what is in the bytes ends in them
ends_within : (b : List ℕ) (p : ℕ) (bytes : List ℕ) → HasAt b p bytes → 0 < length bytes → p + length bytes ≤ length b
ends_within b p bytes (back, e) h =
    let l : length (drop p b) ≡ length (bytes ++ back) = ap length e in
    omega (arith, l, length-drop p b, length-append bytes back, h)

-- the offsets in a table of blocks one after the other
table_run : (o : Order) (b : List ℕ) (cs : List (List ℕ)) (i : Inode) (t d : ℕ) → length b ≤ 2 ^ 28
    → length (bytes_of cs i.fill) ≡ i.size → i.size ≢ 0 → d % 4 ≡ 0 → FilledAt o cs b t d i.fill
    → blocks_from o b (block_count i.size) t i.size ≡ row_from d i.size
table_run o b cs i t d top long z even filled =
    let bytes = bytes_of cs i.fill in
    let size = i.size in
    let c = block_count size in
    let positive = some size z in
    let table = subst (λ (v : ℕ). HasAt b t (pointers o d (block_count v))) long filled.0 in
    let within = ends_within b d bytes filled.1 (omega (arith, long, positive)) in
    one_run o b c t d size (omega arith)
    (λ j m. (pointer_says (word o b (t + 4 * j)) (d + 4096 * j)
    (pointer_at o b t d c j (omega (arith, within, long, top)) m table) (omega (arith, within, long, top, m))
    (omega (arith, even))).1)

-- those of a regular file
node_run : (o : Order) (b : List ℕ) (cs : List (List ℕ)) (high : ℕ) (i : Inode) (p d : ℕ) (es : Entries)
    → i.kind ≡ Regular → IsAt o b cs high i p
    → blocks_from o b (block_count i.size) (offset_of o b p) i.size ≡ row_from d i.size
    → places_of (node_of o b p es) ≡ row_from d i.size
unfolding node_of places_at
node_run o b cs high i p d es kind a run =
    let ps = blocks_from o b (block_count (size_of o b p)) (offset_of o b p) (size_of o b p) in
    let type : type_of o b p ≡ 8 = a.type ∙ ap type_bits kind in
    let other : i.kind ≢ Directory = λ z. let n = ap type_bits (sym kind ∙ z) in absurd (omega (arith, n)) in
    let size : size_of o b p ≡ i.size = a.size_is other ∙ ap (λ (k : Kind). size_by k i) kind in
    body_places_is kind_numbers (type_of o b p) ps es ∙ ap (λ (k : ℕ). by_type k [] ps ps [] [] [] []) type
    ∙ ap (λ (n : ℕ). blocks_from o b (block_count n) (offset_of o b p) n) size ∙ run

good_length : (cs : List (List ℕ)) (i : Inode) (k : ℕ) → IsGood cs i → i.fill ≡ source k
    → length (bytes_of cs i.fill) ≡ i.size
good_length cs i k (a_file f) e = f.bytes
good_length cs i k (a_directory f) e = no_source i (length (bytes_of cs i.fill) ≡ i.size) f.bytes e

end_planned : (o : Order) (b : List ℕ) (cs : List (List ℕ)) (ss : List Section) (high : ℕ) (root : Inode) (n : Names)
    (x : Node) (i : Inode) (k : ℕ) → length b ≤ 2 ^ 28 → i.kind ≡ Regular → i.size ≢ 0 → i.fill ≡ source k
    → IsEnd o b cs high (IsOne (IsPlannedAt o b cs ss) root n) x i → IsAtSection ss i.size k x
end_planned o b cs ss high root n x i k top kind z f e =
    let p = e.known.1 z k f in
    let long = good_length cs i k e.good f in
    record {
      start = p.0;
      run =
          ap places_of e.is
          ∙ node_run o b cs high i e.place p.0 e.entries kind e.here
          (table_run o b cs i (offset_of o b e.place) p.0 top long z p.1 p.2);
      section = p.3;
    }

pub planned_in_cramfs : (o : Order) (volume : List ℕ) (root : Inode) (n : Names) (cs : List (List ℕ)) (A : ℕ → ℕ)
    → IsPlanned volume root n cs → AreAlignedBy A n → (q : List (List ℕ)) (x : Node) (i : Inode) (k : ℕ)
    → node_under q (tree_of o (layout o volume root n cs) (all_spots n)) ≡ Some x
    → file_under q (with_names root n) ≡ Some i → i.kind ≡ Regular → i.size ≢ 0 → i.fill ≡ source k
    → IsAtSection (sections_of (items_of o root n)) i.size k x
planned_in_cramfs o volume root n cs A h al q x i k a f kind z fill =
    let b = layout o volume root n cs in
    let image = is_image o volume root n cs h in
    let s = first_state n in
    let high = (after_names s n).at in
    let es = entries o 76 s n in
    let bs = below o s n in
    let ss = sections_of (items_of o root n) in
    let xs : List Own = owns s n in
    let owned = are_owned o cs A 76 s n refl h.well al in
    let all_owned = every_join (IsOwned xs) es bs owned.here owned.under in
    let bare = every_join IsBare es bs (entries_bare o 76 s n) (below_bare o s n) in
    let in_plan = every_of (InPlan ss) (es ++ bs)
    (λ j m w l g. inr (all_in_sections xs s.at high 1 (es ++ bs) j l (omega arith) (owns_rise cs s n h.well) all_owned
    bare m (has_of (IsOwned xs) (es ++ bs) j m all_owned) w g)) in
    let filled = are_filled o cs A b 76 s n refl h.well al image.holds.has in
    let planned = files_planned o b cs ss high 76 s n h.well image.holds.reads
    (every_both (IsFilled o cs b) (InPlan ss) es filled.0 (every_left (InPlan ss) es bs in_plan))
    (every_both (IsFilled o cs b) (InPlan ss) bs filled.1 (every_right (InPlan ss) es bs in_plan)) in
    let P = IsPlannedAt o b cs ss in
    let first : P (at_place root 64) = λ w j g.
    no_source root ((d : ℕ) × (d % 4 ≡ 0) × FilledAt o cs b (offset_of o b 64) d root.fill
    × Has (λ z. z ≡ section d root.size (contents_of j)) ss) h.directory.bytes g in
    let e = alike_some (IsEnd o b cs high (IsOne P root n)) (node_under q (tree_of o b (all_spots n)))
    (file_under q (with_names root n)) x i (ends_alike o volume root n cs h P first planned q) a f in
    let long = image.long in
    let room = h.room in
    end_planned o b cs ss high root n x i k (omega (arith, long, room)) kind z fill e
