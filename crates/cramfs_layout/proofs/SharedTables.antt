-- Files with the contents of one source have one table, and so their bytes at the same offsets.
use Rattle.std.proofs.Common.{◌≡◌, ◌≢◌, ℕ, ◌+◌, List, [], length, Some, None, Option, inl, inr, refl, sym, ap, ◌∙◌}
use Rattle.std.proofs.Common.{arith}
use Rattle.std.proofs.lemmas.Bool.{eq-eqb}
use Rattle.std.proofs.lemmas.Bool.Decides.{eqb_tells}
use Rattle.std.specs.List.{AllByRecursion as Every}
use Rattle.record_forest.proofs.Lists.{every_join, same_some}
use Rattle.rom_tree.specs.declared.types.Kind.{Kind}
use Rattle.rom_tree.specs.declared.types.Kind.TheVariants.{Directory, Regular, Symlink, Block, Character, Socket, Fifo}
use Rattle.rom_tree.specs.Tree.{Node, Entries, places_of}
use Rattle.rom_tree.proofs.ByKind.{body_places_is}
use Rattle.cramfs_format.specs.declared.order.Order.{Order}
use Rattle.cramfs_format.specs.Inode.{type_of, size_of, offset_of, block_count}
use Rattle.cramfs_format.specs.Tree.{node_of, places_at, blocks_from, by_type, kind_numbers, tree_of}
use Rattle.manifest_tree.specs.Names.{Fill, no_bytes, text, source, Inode, Names, nothing, leaf, link, subdirectory}
use Rattle.manifest_tree.specs.Names.{bytes_of}
use Rattle.manifest_tree.specs.Shape.{node_under, file_under, with_names}
use Rattle.manifest_tree.specs.Files.{Placed, at_place}
use Rattle.manifest_tree.proofs.Alike.{alike_some}
use Rattle.cramfs_layout.specs.Layout.{pad4, type_bits, size_by, entry_len, State, Table, table_with, Kept, nowhere}
use Rattle.cramfs_layout.specs.Layout.{shared, fresh, kept, kept_by, kept_with, with_table, table_by, first_state}
use Rattle.cramfs_layout.specs.Layout.{after_by, after_file, after_list, after_names, layout}
use Rattle.cramfs_layout.specs.Planned.{IsPlanned}
use Rattle.cramfs_layout.specs.Sharing.{SourcesAreShared}
use Rattle.cramfs_layout.specs.Wells.{FitsKind, IsFile, AreWell, AllRead}
use Rattle.cramfs_layout.proofs.Image.{is_image}
use Rattle.cramfs_layout.proofs.Paths.{placed, IsGood, a_file, a_directory, IsEnd}
use Rattle.cramfs_layout.proofs.Shaped.{IsOne, ends_alike}
use Rattle.cramfs_layout.proofs.Stored.{shared_by, none_by}
use Rattle.cramfs_layout.proofs.Values.{IsAt}
use Rattle.cramfs_layout.proofs.Whole.{all_spots}

-- each source that has a table has it later, too
abbrev pub Keeps : List Table → List Table → Type 0
Keeps ts us = (k t : ℕ) → table_with ts k ≡ Some t → table_with us k ≡ Some t

-- a table of its own is that of a source without one
none_fresh : (o : Option ℕ) → kept_with o ≡ fresh → o ≡ None
none_fresh None e = refl
none_fresh (Some t) e = absurd (cc)

keeps_more : (f : Fill) (p : ℕ) (ts : List Table) → kept_by ts f ≡ fresh → Keeps ts (with_table f p ts)
keeps_more no_bytes p ts e k t h = h
keeps_more (text x) p ts e k t h = h
keeps_more (source j) p ts e k t h = elim (eqb_tells j k) [
  | inl y ↦ let z : Some t ≡ None = sym h ∙ ap (table_with ts) (sym y.1) ∙ none_fresh (table_with ts j) e in absurd (cc)
  | inr y ↦ rw y.0 h
]

file_keeps : (s : State) (i : Inode) (c : Kept) → kept s.tables i ≡ c → Keeps s.tables (after_by c s i).tables
unfolding kept
file_keeps s i nowhere e k t h = h
file_keeps s i (shared u) e k t h = h
file_keeps s i fresh e k t h = elim (eqb_tells i.size 0) [
  | inl y ↦ let z : nowhere ≡ fresh = (rw y.0 at e) in absurd (cc)
  | inr y ↦ keeps_more i.fill (pad4 s.at) s.tables (rw y.0 at e) k t h
]

names_keep : (s : State) (n : Names) → Keeps s.tables (after_names s n).tables
names_keep s nothing k t h = h
names_keep s (leaf name i rest) k t h =
    names_keep (after_file s i) rest k t (file_keeps s i (kept s.tables i) refl k t h)
names_keep s (link name i rest) k t h =
    names_keep (after_file s i) rest k t (file_keeps s i (kept s.tables i) refl k t h)
names_keep s (subdirectory name i own rest) k t h =
    let s1 = after_list s own in
    names_keep (after_names s1 own) rest k t (names_keep s1 own k t h)

same_source : {j k : ℕ} → source j ≡ source k → j ≡ k
same_source e = cc

-- the table of a file with the contents of a source is that of the source
file_table : (s : State) (i : Inode) (k : ℕ) (c : Kept) → kept s.tables i ≡ c → i.size ≢ 0 → i.fill ≡ source k
    → table_with (after_by c s i).tables k ≡ Some (table_by c s.at)
unfolding kept
file_table s i k nowhere e z f = elim (eqb_tells i.size 0) [
  | inl y ↦ absurd (z y.1)
  | inr y ↦
      let e' : kept_by s.tables i.fill ≡ nowhere = (rw y.0 at e) in
      let g : source k ≡ no_bytes = sym f ∙ none_by s.tables i.fill e' in
      absurd (cc)
]
file_table s i k (shared t) e z f = elim (eqb_tells i.size 0) [
  | inl y ↦ absurd (z y.1)
  | inr y ↦
      let e' : kept_by s.tables i.fill ≡ shared t = (rw y.0 at e) in
      let g = shared_by s.tables i.fill t e' in
      ap (table_with s.tables) (same_source (sym f ∙ g.1)) ∙ g.2
]
file_table s i k fresh e z f =
    ap (λ (g : Fill). table_with (with_table g (pad4 s.at) s.tables) k) f ∙ own
  where
    own : table_with (with_table (source k) (pad4 s.at) s.tables) k ≡ Some (pad4 s.at)
    own = rw (eq-eqb k k refl) refl

-- a file with the contents of a source and with bytes refers to the table of the source
abbrev pub IsTableOf : Order → List ℕ → List Table → Placed → Type 0
IsTableOf o b all x =
    x.inode.kind ≢ Directory → x.inode.size ≢ 0 → (k : ℕ) → x.inode.fill ≡ source k
    → table_with all k ≡ Some (offset_of o b x.place)

pub files_refer : (o : Order) (b : List ℕ) (cs : List (List ℕ)) (high l : ℕ) (s : State) (n : Names) (all : List Table)
    → AreWell cs n → AllRead o b cs high l s n → Keeps (after_names s n).tables all
    → Every (IsTableOf o b all) (placed l s n)
files_refer o b cs high l s nothing all h r keep = tt
files_refer o b cs high l s (leaf name i rest) all h r keep =
    let s' = after_file s i in
    let c = kept s.tables i in
    let t = table_by c s.at in (
      (λ _ z k f. keep k t (names_keep s' rest k t (file_table s i k c refl z f))
          ∙ ap (λ (v : ℕ). Some v) (sym r.0.offset_is)),
      files_refer o b cs high (l + entry_len name) s' rest all h.2 r.2 keep,
    )
files_refer o b cs high l s (link name i rest) all h r keep = absurd h
files_refer o b cs high l s (subdirectory name i own rest) all h r keep =
    let s1 = after_list s own in
    let s2 = after_names s1 own in (
      (λ z. absurd (z h.1.kind)),
      every_join (IsTableOf o b all) (placed (pad4 s.at) s1 own) (placed (l + entry_len name) s2 rest)
          (files_refer o b cs high (pad4 s.at) s1 own all h.2 r.1 (λ k t e. keep k t (names_keep s2 rest k t e)))
          (files_refer o b cs high (l + entry_len name) s2 rest all h.3 r.2 keep),
    )

-- a file with the contents of a source has its size in its inode, and offsets
record HasPlaces (k : Kind) (i : Inode) (ps : List ℕ) : Type 0 where
  other : k ≢ Directory
  size : size_by k i ≡ i.size
  places : by_type (type_bits k) [] ps ps [] [] [] [] ≡ ps

has_places : (k : Kind) (i : Inode) (j : ℕ) (ps : List ℕ) → FitsKind k i → i.fill ≡ source j → HasPlaces k i ps
has_places Directory i j ps h f = absurd h
has_places Regular i j ps h f =
    record { other = λ e. absurd (let n = ap type_bits e in omega (arith, n)); size = refl; places = refl }
has_places Symlink i j ps h f =
    record { other = λ e. absurd (let n = ap type_bits e in omega (arith, n)); size = refl; places = refl }
has_places Block i j ps h f = let z : no_bytes ≡ source j = sym h.2 ∙ f in absurd (cc)
has_places Character i j ps h f = let z : no_bytes ≡ source j = sym h.2 ∙ f in absurd (cc)
has_places Socket i j ps h f = let z : no_bytes ≡ source j = sym h.2 ∙ f in absurd (cc)
has_places Fifo i j ps h f = let z : no_bytes ≡ source j = sym h.2 ∙ f in absurd (cc)

source_file : (cs : List (List ℕ)) (i : Inode) (k : ℕ) → IsGood cs i → i.fill ≡ source k → IsFile cs i
source_file cs i k (a_file f) e = f
source_file cs i k (a_directory f) e = let z : no_bytes ≡ source k = sym f.bytes ∙ e in absurd (cc)

-- its offsets are those of the blocks in its table
node_places : (o : Order) (b : List ℕ) (cs : List (List ℕ)) (high : ℕ) (i : Inode) (p : ℕ) (es : Entries) (j : ℕ)
    → IsFile cs i → IsAt o b cs high i p → i.fill ≡ source j
    → places_of (node_of o b p es) ≡ blocks_from o b (block_count i.size) (offset_of o b p) i.size
unfolding node_of places_at
node_places o b cs high i p es j h a f =
    let ps = blocks_from o b (block_count (size_of o b p)) (offset_of o b p) (size_of o b p) in
    let w = has_places i.kind i j ps h.kind f in
    body_places_is kind_numbers (type_of o b p) ps es ∙ ap (λ (k : ℕ). by_type k [] ps ps [] [] [] []) a.type ∙ w.places
    ∙ ap (λ (n : ℕ). blocks_from o b (block_count n) (offset_of o b p) n) (a.size_is w.other ∙ w.size)

blocks_same : (o : Order) (b : List ℕ) (n m p q : ℕ) → n ≡ m → (n ≢ 0 → p ≡ q)
    → blocks_from o b (block_count n) p n ≡ blocks_from o b (block_count m) q m
blocks_same o b n m p q e f = elim (eqb_tells n 0) [
  | inl y ↦
      ap (λ (v : ℕ). blocks_from o b (block_count v) p v) y.1
      ∙ ap (λ (v : ℕ). blocks_from o b (block_count v) q v) (sym y.1 ∙ e)
  | inr y ↦
      ap (λ (v : ℕ). blocks_from o b (block_count n) v n) (f y.1)
      ∙ ap (λ (v : ℕ). blocks_from o b (block_count v) q v) e
]

-- what is at the ends of two paths, with the contents of one source
ends_share : (o : Order) (b : List ℕ) (cs : List (List ℕ)) (high : ℕ) (all : List Table) (root : Inode) (n : Names)
    (x y : Node) (i j : Inode) (k : ℕ) → IsEnd o b cs high (IsOne (IsTableOf o b all) root n) x i
    → IsEnd o b cs high (IsOne (IsTableOf o b all) root n) y j → i.fill ≡ source k → j.fill ≡ source k
    → places_of x ≡ places_of y
ends_share o b cs high all root n x y i j k e f g u =
    let fi = source_file cs i k e.good g in
    let fj = source_file cs j k f.good u in
    let ki = (has_places i.kind i k [] fi.kind g).other in
    let kj = (has_places j.kind j k [] fj.kind u).other in
    let size : i.size ≡ j.size = sym fi.bytes ∙ ap (λ (w : Fill). length (bytes_of cs w)) (g ∙ sym u) ∙ fj.bytes in
    let table : i.size ≢ 0 → offset_of o b e.place ≡ offset_of o b f.place = λ z.
    same_some (sym (e.known.1 ki z k g) ∙ f.known.1 kj (λ w. z (size ∙ w)) k u) in
    ap places_of e.is ∙ node_places o b cs high i e.place e.entries k fi e.here g
    ∙ blocks_same o b i.size j.size (offset_of o b e.place) (offset_of o b f.place) size table
    ∙ sym (node_places o b cs high j f.place f.entries k fj f.here u) ∙ sym (ap places_of f.is)

pub has_shares : (o : Order) (volume : List ℕ) (root : Inode) (n : Names) (cs : List (List ℕ))
    → IsPlanned volume root n cs
    → SourcesAreShared (tree_of o (layout o volume root n cs) (all_spots n)) root n
has_shares o volume root n cs h q r x y i j k a c e f g u =
    let b = layout o volume root n cs in
    let image = is_image o volume root n cs h in
    let s = first_state n in
    let high = (after_names s n).at in
    let all = (after_names s n).tables in
    let P = IsTableOf o b all in
    let Q = IsOne P root n in
    let t = tree_of o b (all_spots n) in
    let m = with_names root n in
    let refer = files_refer o b cs high 76 s n all h.well image.holds.reads (λ k t z. z) in
    let first : P (at_place root 64) = λ z. absurd (z h.directory.kind) in
    let alike = ends_alike o volume root n cs h P first refer in
    ends_share o b cs high all root n x y i j k
    (alike_some (IsEnd o b cs high Q) (node_under q t) (file_under q m) x i (alike q) a e)
    (alike_some (IsEnd o b cs high Q) (node_under r t) (file_under r m) y j (alike r) c f) g u
