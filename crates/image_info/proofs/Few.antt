-- A checked image has no more names below its root than references.
use Rattle.std.proofs.Common.{◌≡◌, ◌+◌, ◌≤◌, ℕ, suc, true, false, cond, List, [], length, arith, inl, inr, subst, refl}
use Rattle.std.proofs.lemmas.Bool.{eq-eqb}
use Rattle.std.proofs.lemmas.Bool.Decides.{eqb_tells}
use Rattle.std.proofs.lemmas.List.{length-append}
use Rattle.rom_tree.specs.Dots.{is_dots}
use Rattle.rom_tree.specs.Tree.{Node, Body, directory, regular, symlink, block, character, socket, fifo, Entries, entry}
use Rattle.rom_tree.specs.Kinds.{KindNumbers, body_by}
use Rattle.rom_tree.specs.Names.{names, node_names, body_names, entries_names, path_below}
use Rattle.rom_tree.proofs.ByKind.{by_kind_map, by_kind_directory, by_kind_rest}
use Rattle.record_forest.specs.Forest.{Forest, none, at, count}
use Rattle.romfs_format.specs.Record.{name_of, type_of}
use Rattle.romfs_format.specs.Tree.{kind_numbers, places_at, node_of, entries_at, led}
use Rattle.romfs_format.specs.Made.{made, list_at, begins, start_of, grow}
use Rattle.cramfs_format.specs.declared.order.Order.{Order}
use Rattle.cramfs_format.specs.Inode.{list_start, list_end, type_of as cramfs_type_of, name_of as cramfs_name_of}
use Rattle.cramfs_format.specs.Refers.{root_place}
use Rattle.cramfs_format.specs.Tree.{kind_numbers as cramfs_numbers, places_at as cramfs_places_at}
use Rattle.cramfs_format.specs.Tree.{node_of as cramfs_node_of, entries_at as cramfs_entries_at}
use Rattle.cramfs_format.specs.Made.{made as cramfs_made, list_at as cramfs_list_at, grow as cramfs_grow}
use Rattle.image_check.specs.declared.any.AnyImage.{AnyImage}
use Rattle.image_check.specs.declared.any.AnyImage.TheVariants.{Romfs, Cramfs}
use Rattle.image_check.specs.Any.{any_view, report_of}

-- only a directory has names below it
body_few : (path : List ℕ) (k : KindNumbers) (t : ℕ) (ps : List ℕ) (es : Entries)
    → length (body_names path (body_by k t ps es)) ≤ length (entries_names path es)
unfolding node_names
body_few path k t ps es =
    let e = by_kind_map (λ (x : Body). length (body_names path x)) k t (directory es) (regular ps)
    (symlink ps) block character socket fifo in
    elim (eqb_tells t k.of_directory) [
      | inl h ↦ let d = by_kind_directory k t (length (entries_names path es)) 0 0 0 0 0 0 h.1 in omega (arith, e, d)
      | inr h ↦ let d = by_kind_rest k t (length (entries_names path es)) 0 h.1 in omega (arith, e, d)
    ]

-- one entry more
entry_few : (path name : List ℕ) (x : Node) (es : Entries) (m n : ℕ) → length (node_names (path_below path name) x) ≤ m
    → length (entries_names path es) ≤ n → length (entries_names path (entry name x es)) ≤ suc (m + n)
unfolding node_names
entry_few path name x es m n h i =
    let l = length-append (node_names (path_below path name) x) (entries_names path es) in omega (arith, h, i, l)

-- the names in the list of a romfs directory, and below
node_few : (b path : List ℕ) (p : ℕ) (es : Entries) (n : ℕ) → length (entries_names path es) ≤ n
    → length (node_names path (node_of b p es)) ≤ n
unfolding node_names node_of
node_few b path p es n h = let f = body_few path kind_numbers (type_of b p) (places_at b p) es in omega (arith, f, h)

entries_few : (b path : List ℕ) (f : Forest) → length (entries_names path (entries_at b f)) ≤ count f
unfolding node_names
entries_few b path none = omega arith
entries_few b path (at p own after) =
    let rest = entries_few b path after in
    let name : List ℕ = name_of b p in
    let x : Node = node_of b (led 8 b p) (entries_at b own) in
    let below = node_few b (path_below path name) (led 8 b p) (entries_at b own) (count own)
    (entries_few b (path_below path name) own) in
    let more = entry_few path name x (entries_at b after) (count own) (count after) below rest in
    elim (is_dots (name_of b p)) as (λ t. length
    (entries_names path (cond t (entries_at b after) (entry name x (entries_at b after))))
    ≤ suc (count own + count after)) [
      | true ↦ omega (arith, rest)
      | false ↦ more
    ]

root_begins : (b : List ℕ) (r : ℕ) → start_of b r ≡ begins b r r
unfolding begins
root_begins b r = rw (eq-eqb r r refl) refl

romfs_few : (b : List ℕ) (r k : ℕ) → count (grow k b (start_of b r)) ≤ k → length (names (made b r k r)) ≤ suc k
unfolding names node_names made list_at
romfs_few b r k h =
    let z : count (list_at b r k r) ≤ k = subst (λ (q : ℕ). count (grow k b q) ≤ k) (root_begins b r) h in
    let e = entries_few b [] (list_at b r k r) in
    let f = node_few b [] r (entries_at b (list_at b r k r)) k (omega (arith, e, z)) in
    omega (arith, f)

-- the same of cramfs
cramfs_node_few : (o : Order) (b path : List ℕ) (p : ℕ) (es : Entries) (n : ℕ) → length (entries_names path es) ≤ n
    → length (node_names path (cramfs_node_of o b p es)) ≤ n
unfolding node_names cramfs_node_of
cramfs_node_few o b path p es n h =
    let f = body_few path cramfs_numbers (cramfs_type_of o b p) (cramfs_places_at o b p) es in omega (arith, f, h)

cramfs_entries_few : (o : Order) (b path : List ℕ) (f : Forest)
    → length (entries_names path (cramfs_entries_at o b f)) ≤ count f
unfolding node_names
cramfs_entries_few o b path none = omega arith
cramfs_entries_few o b path (at p own after) =
    let name : List ℕ = cramfs_name_of o b p in
    let es : Entries = cramfs_entries_at o b own in
    let below = cramfs_node_few o b (path_below path name) p es (count own)
    (cramfs_entries_few o b (path_below path name) own) in
    entry_few path name (cramfs_node_of o b p es) (cramfs_entries_at o b after) (count own) (count after) below
    (cramfs_entries_few o b path after)

cramfs_few : (o : Order) (b : List ℕ) (k : ℕ)
    → count (cramfs_grow k o b (list_end o b root_place) (list_start o b root_place)) ≤ k
    → length (names (cramfs_made o b k root_place)) ≤ suc k
unfolding names node_names cramfs_made cramfs_list_at
cramfs_few o b k h =
    let f = cramfs_node_few o b [] root_place (cramfs_entries_at o b (cramfs_list_at o b k root_place)) k
    (let e = cramfs_entries_few o b [] (cramfs_list_at o b k root_place) in let z : count
    (cramfs_list_at o b k root_place) ≤ k = h in omega (arith, e, z)) in
    omega (arith, f)

-- all names, the root's among them
pub few_names : (a : AnyImage) → length (names (any_view a).tree) ≤ suc (report_of a).references
few_names (Romfs s) = romfs_few s.accessible.bytes.now s.accessible.root s.references s.sound.few
few_names (Cramfs s) = cramfs_few s.accessible.order s.accessible.bytes.now s.references s.sound.few
