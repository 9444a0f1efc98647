-- All extents of a layout's rows are among what it places, and its lists are apart.
use Rattle.std.proofs.Common.{◌≡◌, ℕ, zero, suc, ◌+◌, ◌-◌, ◌*◌, ◌^◌, ◌<◌, ◌≤◌, true, List, ◌++◌, length, refl, sym, ap}
use Rattle.std.proofs.Common.{subst, ◌∙◌, arith, inl, inr}
use Rattle.std.proofs.lemmas.Bool.{false≢true}
use Rattle.std.proofs.lemmas.Bool.Decides.{eqb_tells}
use Rattle.std.specs.List.{AllByRecursion as Every}
use Rattle.rom_fields.specs.declared.span.Extent.TheVariants.{List as ListOf, Table as TableOf}
use Rattle.rom_fields.specs.declared.span.Span.{Span}
use Rattle.rom_fields.specs.Extents.{added}
use Rattle.rom_tree.specs.declared.types.Kind.{Kind}
use Rattle.rom_tree.specs.declared.types.Kind.TheVariants.{Directory, Regular, Symlink, Block, Character, Socket, Fifo}
use Rattle.record_forest.specs.declared.reference.Reference.{Reference}
use Rattle.record_forest.specs.declared.reference.Row.{Row}
use Rattle.record_forest.specs.Forest.{rows}
use Rattle.record_forest.specs.Members.{Pairs}
use Rattle.record_forest.proofs.Lists.{every_join, every_weaker, every_left, every_right, every_all, pairs_join}
use Rattle.cramfs_format.specs.Order.{word}
use Rattle.cramfs_format.specs.declared.order.Order.{Order}
use Rattle.cramfs_format.specs.Inode.{type_of, size_of, offset_of, has_data, block_count, block_start}
use Rattle.cramfs_format.specs.Refers.{references}
use Rattle.cramfs_format.specs.Tree.{data_from, file_extents, row_extents}
use Rattle.cramfs_format.proofs.Spans.{ListsApart, row_every}
use Rattle.rom_fields.specs.Parts.{HasParts}
use Rattle.manifest_tree.specs.Names.{Fill, no_bytes, text, source, Inode, Names, nothing, leaf, link, subdirectory}
use Rattle.manifest_tree.specs.Names.{bytes_of}
use Rattle.cramfs_layout.specs.Layout.{pad4, type_bits, size_by, entry_len, list_len, list_offset, State, Table, Kept}
use Rattle.cramfs_layout.specs.Layout.{nowhere, shared, fresh, kept, kept_by, data_of, with_table, table_by, after_by}
use Rattle.cramfs_layout.specs.Layout.{after_file, after_list, after_names, file_parts, parts}
use Rattle.cramfs_layout.specs.Reads.{ReadsEntry}
use Rattle.cramfs_layout.specs.Wells.{IsFile, AreWell, AllRead}
use Rattle.cramfs_layout.specs.Forest.{spots}
use Rattle.cramfs_layout.proofs.Stored.{data_after, file_onward, names_onward, shared_by, none_by, stored_with}
use Rattle.cramfs_layout.proofs.Stored.{parts_both}
use Rattle.cramfs_layout.proofs.Stands.{empty, at_place, is_placed, type_by}
use Rattle.cramfs_layout.proofs.Sound.{pointer_at, pointer_says}
use Rattle.cramfs_layout.proofs.Extents.{blocks, file_spans, spans}

-- the offset of a row's list, if it has one
abbrev pub HasListIn : Order → List ℕ → ℕ → ℕ → Row → Type 0
HasListIn o b from to y = type_of o b y.offset ≡ 4 → 0 < size_of o b y.offset
    → (from ≤ offset_of o b y.offset) × (offset_of o b y.offset < to)

lists_wider : (o : Order) (b : List ℕ) (from to low high : ℕ) (y : Row) → low ≤ from → to ≤ high
    → HasListIn o b from to y → HasListIn o b low high y
lists_wider o b from to low high y l m h t s = let k = h t s in let u = k.0 in let v = k.1 in (omega arith, omega arith)

-- the list of a directory
own_list : (o : Order) (b : List ℕ) (p : ℕ) (s : State) (own : Names) → offset_of o b p ≡ list_offset s.at own
    → size_of o b p ≡ list_len own → 0 < size_of o b p → offset_of o b p ≡ pad4 s.at
own_list o b p s own e f l = elim (is_placed s.at own)
    [ empty z ↦ let y : list_len own ≡ 0 = ap list_len z in absurd (omega (arith, f, l, y)) | at_place z ↦ e ∙ z ]

pub lists_in : (o : Order) (b : List ℕ) (cs : List (List ℕ)) (high : ℕ) (x : Reference) (d up depth l : ℕ) (s : State)
    (n : Names)
    → AreWell cs n → AllRead o b cs high l s n
    → Every (HasListIn o b s.at (after_names s n).at) (rows (references o b) x d up depth (spots l s n))
lists_in o b cs high x d up depth l s nothing h r = tt
lists_in o b cs high x d up depth l s (leaf name i rest) h r =
    let g = references o b in
    let s' = after_file s i in
    let a = file_onward cs s i h.1 in
    let t = (after_names s' rest).at in (
      (λ z. absurd (type_by i.kind i h.1.kind (sym r.0.type ∙ z))),
      every_weaker (HasListIn o b s'.at t) (HasListIn o b s.at t)
          (λ y k. lists_wider o b s'.at t s.at t y a (omega arith) k)
          (rows g (g.after x) d up depth (spots (l + entry_len name) s' rest))
          (lists_in o b cs high (g.after x) d up depth (l + entry_len name) s' rest h.2 r.2),
    )
lists_in o b cs high x d up depth l s (link name i rest) h r = absurd h
lists_in o b cs high x d up depth l s (subdirectory name i own rest) h r =
    let g = references o b in
    let s1 = after_list s own in
    let s' = after_names s1 own in
    let a = names_onward cs s1 own h.2 in
    let c = names_onward cs s' rest h.3 in
    let t = (after_names s' rest).at in
    let own_rows = rows g (g.own x) l d (depth + 1) (spots (pad4 s.at) s1 own) in
    let rest_rows = rows g (g.after x) d up depth (spots (l + entry_len name) s' rest) in (
      (λ _ k. let e = own_list o b l s own r.0.offset_is r.0.size_is k in let f = r.0.size_is in
          (omega (arith, e), omega (arith, e, f, k, a, c))),
      every_join (HasListIn o b s.at t) own_rows rest_rows
          (every_weaker (HasListIn o b s1.at s'.at) (HasListIn o b s.at t)
          (λ y k. lists_wider o b s1.at s'.at s.at t y (omega arith) c k) own_rows
          (lists_in o b cs high (g.own x) l d (depth + 1) (pad4 s.at) s1 own h.2 r.1))
          (every_weaker (HasListIn o b s'.at t) (HasListIn o b s.at t)
          (λ y k. lists_wider o b s'.at t s.at t y (omega (arith, a)) (omega arith) k) rest_rows
          (lists_in o b cs high (g.after x) d up depth (l + entry_len name) s' rest h.3 r.2)),
    )

pub lists_apart : (o : Order) (b : List ℕ) (cs : List (List ℕ)) (high : ℕ) (x : Reference) (d up depth l : ℕ)
    (s : State) (n : Names)
    → AreWell cs n → AllRead o b cs high l s n
    → Pairs (ListsApart o b) (rows (references o b) x d up depth (spots l s n))
lists_apart o b cs high x d up depth l s nothing h r = tt
lists_apart o b cs high x d up depth l s (leaf name i rest) h r =
    let g = references o b in
    let s' = after_file s i in
    let head : Row = record { offset = l; reference = x; directory = d; parent = up; depth = depth } in (
      every_all (ListsApart o b head) (λ y z. absurd (type_by i.kind i h.1.kind (sym r.0.type ∙ z)))
          (rows g (g.after x) d up depth (spots (l + entry_len name) s' rest)),
      lists_apart o b cs high (g.after x) d up depth (l + entry_len name) s' rest h.2 r.2,
    )
lists_apart o b cs high x d up depth l s (link name i rest) h r = absurd h
lists_apart o b cs high x d up depth l s (subdirectory name i own rest) h r =
    let g = references o b in
    let s1 = after_list s own in
    let s' = after_names s1 own in
    let a = names_onward cs s1 own h.2 in
    let t = (after_names s' rest).at in
    let head : Row = record { offset = l; reference = x; directory = d; parent = up; depth = depth } in
    let own_rows = rows g (g.own x) l d (depth + 1) (spots (pad4 s.at) s1 own) in
    let rest_rows = rows g (g.after x) d up depth (spots (l + entry_len name) s' rest) in
    let mine = lists_in o b cs high (g.own x) l d (depth + 1) (pad4 s.at) s1 own h.2 r.1 in
    let theirs = lists_in o b cs high (g.after x) d up depth (l + entry_len name) s' rest h.3 r.2 in
    let f = r.0.size_is in (
      every_join (ListsApart o b head) own_rows rest_rows
          (every_weaker (HasListIn o b s1.at s'.at) (ListsApart o b head)
          (λ y k ty ty' z e z'. let w = own_list o b l s own r.0.offset_is r.0.size_is z in let u =
          (k ty' z').0 in omega (arith, w, e, f, z)) own_rows mine)
          (every_weaker (HasListIn o b s'.at t) (ListsApart o b head)
          (λ y k ty ty' z e z'. let w = own_list o b l s own r.0.offset_is r.0.size_is z in let u =
          (k ty' z').0 in omega (arith, w, e, f, z, a)) rest_rows theirs),
      pairs_join (ListsApart o b) own_rows rest_rows
          (lists_apart o b cs high (g.own x) l d (depth + 1) (pad4 s.at) s1 own h.2 r.1)
          (lists_apart o b cs high (g.after x) d up depth (l + entry_len name) s' rest h.3 r.2)
          (every_weaker (HasListIn o b s1.at s'.at) (λ y. Every (ListsApart o b y) rest_rows)
          (λ y k. every_weaker (HasListIn o b s'.at t) (ListsApart o b y)
          (λ v j ty ty' z e z'. let u = (k ty z).1 in let w = (j ty' z').0 in omega
          (arith, e)) rest_rows theirs) own_rows mine),
    )

-- the extents of a table of so many bytes
abbrev pub table_spans : Order → List ℕ → ℕ → ℕ → List Span
table_spans o b t size = added TableOf t (4 * block_count size) ++ data_from o b (block_count size) t size

data_is : (o : Order) (b : List ℕ) (k q p size : ℕ)
    → ((i : ℕ) → i < k → block_start (word o b (q + 4 * i)) ≡ p + 4096 * i) → data_from o b k q size ≡ blocks k p size
data_is o b zero q p size f = refl
data_is o b (suc k) q p size f =
    let e : q + 4 * 0 ≡ q = omega arith in
    let here : block_start (word o b q) ≡ p =
    ap (λ (v : ℕ). block_start (word o b v)) (sym e) ∙ (f 0 (omega arith) ∙ omega arith) in
    let rest = data_is o b k (q + 4) (p + 4096) (size - 4096)
    (λ i l. let s : q + 4 + 4 * i ≡ q + 4 * suc i = omega arith in ap (λ (v : ℕ). block_start (word o b v)) s
    ∙ (f (suc i) (omega arith) ∙ omega arith)) in
    rw (here, rest) refl

-- the extents of each table of a source are known
abbrev pub TableKnown : Order → List ℕ → List (List ℕ) → (Span → Type 0) → Table → Type 0
TableKnown o b cs Q x = Every Q (table_spans o b x.place (length (bytes_of cs (source x.source))))

known_more : (P : Table → Type 0) (o : Order) (b : List ℕ) (cs : List (List ℕ)) (Q : Span → Type 0) (p : ℕ) (f : Fill)
    (ts : List Table)
    → Every Q (table_spans o b p (length (bytes_of cs f))) → Every (TableKnown o b cs Q) ts
    → Every (TableKnown o b cs Q) (with_table f p ts)
known_more P o b cs Q p no_bytes ts h k = k
known_more P o b cs Q p (text x) ts h k = k
known_more P o b cs Q p (source n) ts h k = (h, k)

file_known : (o : Order) (b : List ℕ) (cs : List (List ℕ)) (Q : Span → Type 0) (s : State) (i : Inode) (k : Kept)
    → IsFile cs i → kept s.tables i ≡ k → (after_by k s i).at ≤ 2 ^ 28 → HasParts b (file_parts o cs k s i)
    → Every Q (file_spans k s i) → Every (TableKnown o b cs Q) s.tables
    → Every Q (table_spans o b (table_by k s.at) i.size) × Every (TableKnown o b cs Q) (after_by k s i).tables
unfolding kept
file_known o b cs Q s i nowhere h e fits has q st = (
  elim (eqb_tells i.size 0) [
    | inl z ↦ subst (λ (n : ℕ). Every Q (table_spans o b 0 n)) (sym z.1) tt
    | inr z ↦
        let e' : kept_by s.tables i.fill ≡ nowhere = (rw z.0 at e) in
        let n : length (bytes_of cs i.fill) ≡ 0 =
        ap (λ (f : Fill). length (bytes_of cs f)) (none_by s.tables i.fill e') in
        absurd (z.1 (sym h.bytes ∙ n))
  ],
  st,
)
file_known o b cs Q s i (shared t) h e fits has q st = (
  elim (eqb_tells i.size 0) [
    | inl z ↦ let y : nowhere ≡ shared t = (rw z.0 at e) in absurd (cc)
    | inr z ↦
        let e' : kept_by s.tables i.fill ≡ shared t = (rw z.0 at e) in
        let k = shared_by s.tables i.fill t e' in
        let n : length (bytes_of cs (source k.0)) ≡ i.size =
        ap (λ (f : Fill). length (bytes_of cs f)) (sym k.1) ∙ h.bytes in
        subst (λ (v : ℕ). Every Q (table_spans o b t v)) n (stored_with (TableKnown o b cs Q) s.tables k.0 t st k.2)
  ],
  st,
)
file_known o b cs Q s i fresh h e fits has q st =
    let p = data_of s.at i in
    let d = data_after cs s.at i h in
    let table_before = d.0 in
    let data_at_fours = d.1 in
    let n = block_count i.size in
    let same : data_from o b n (pad4 s.at) i.size ≡ blocks n p i.size =
    data_is o b n (pad4 s.at) p i.size
    (λ j l. (pointer_says (word o b (pad4 s.at + 4 * j)) (p + 4096 * j)
    (pointer_at o b (pad4 s.at) p n j (omega arith) l has.0) (omega arith) (omega (arith, data_at_fours))).1) in
    let mine : Every Q (table_spans o b (pad4 s.at) i.size) =
    subst (λ (xs : List Span). Every Q (added TableOf (pad4 s.at) (4 * n) ++ xs)) (sym same) q in (
      mine,
      known_more (TableKnown o b cs Q) o b cs Q (pad4 s.at) i.fill s.tables
          (subst (λ (v : ℕ). Every Q (table_spans o b (pad4 s.at) v)) (sym h.bytes) mine) st,
    )

sized_by : (k : Kind) (i : Inode) → has_data (type_bits k) ≡ true → size_by k i ≡ i.size
sized_by Directory i e = refl
sized_by Regular i e = refl
sized_by Symlink i e = refl
sized_by Block i e = absurd (false≢true e)
sized_by Character i e = absurd (false≢true e)
sized_by Socket i e = refl
sized_by Fifo i e = refl

-- the extents of a row are known
file_row : (o : Order) (b : List ℕ) (cs : List (List ℕ)) (Q : Span → Type 0) (y : Row) (name : List ℕ) (i : Inode)
    (t : ℕ)
    → IsFile cs i → ReadsEntry o b y.offset name i (size_by i.kind i) t → Every Q (table_spans o b t i.size)
    → Every Q (row_extents o b y)
unfolding file_extents
file_row o b cs Q y name i t h r q = row_every Q o b y (λ z. absurd (type_by i.kind i h.kind (sym r.type ∙ z)))
    (λ z. let s : size_of o b y.offset ≡ i.size = r.size_is ∙ sized_by i.kind i (ap has_data (sym r.type) ∙ z) in
    subst (λ (v : ℕ). Every Q (table_spans o b v (size_of o b y.offset))) (sym r.offset_is)
    (subst (λ (v : ℕ). Every Q (table_spans o b t v)) (sym s) q))

-- what is known of the rows of names, and of the tables after them
pub record AreKnown (o : Order) (b : List ℕ) (cs : List (List ℕ)) (Q : Span → Type 0) (ys : List Row)
    (ts : List Table) : Type 0 where
  pub rows_known : Every (λ (y : Row). Every Q (row_extents o b y)) ys
  pub tables : Every (TableKnown o b cs Q) ts

-- an extent that is added is known, by its start and length
pub added_known : (Q : Span → Type 0) (p n v w : ℕ) → v ≡ p → w ≡ n → 0 < w → Every Q (added ListOf p n)
    → Q (record { kind = ListOf; start = v; len = w })
added_known Q p zero v w e f z q = absurd (omega (arith, f, z))
added_known Q p (suc n) v w e f z q =
    subst (λ (m : ℕ). Q (record { kind = ListOf; start = m; len = w })) (sym e)
    (subst (λ (m : ℕ). Q (record { kind = ListOf; start = p; len = m })) (sym f) q.0)

pub known : (o : Order) (b : List ℕ) (cs : List (List ℕ)) (Q : Span → Type 0) (high : ℕ) (x : Reference)
    (d up depth l : ℕ) (s : State) (n : Names)
    → AreWell cs n → AllRead o b cs high l s n → (after_names s n).at ≤ 2 ^ 28 → HasParts b (parts o cs s n)
    → Every Q (spans s n) → Every (TableKnown o b cs Q) s.tables
    → AreKnown o b cs Q (rows (references o b) x d up depth (spots l s n)) (after_names s n).tables
known o b cs Q high x d up depth l s nothing h r fits has q st = record { rows_known = tt; tables = st }
known o b cs Q high x d up depth l s (leaf name i rest) h r fits has q st =
    let g = references o b in
    let s' = after_file s i in
    let k = kept s.tables i in
    let ps = parts_both b (file_parts o cs k s i) (parts o cs s' rest) has in
    let e = names_onward cs s' rest h.2 in
    let one = file_known o b cs Q s i k h.1 refl (omega (arith, e, fits)) ps.0
    (every_left Q (file_spans k s i) (spans s' rest) q) st in
    let later = known o b cs Q high (g.after x) d up depth (l + entry_len name) s' rest h.2 r.2 fits ps.1
    (every_right Q (file_spans k s i) (spans s' rest) q) one.1 in
    let head : Row = record { offset = l; reference = x; directory = d; parent = up; depth = depth } in
    record {
      rows_known = (file_row o b cs Q head name i (table_by k s.at) h.1 r.0 one.0, later.rows_known);
      tables = later.tables;
    }
known o b cs Q high x d up depth l s (link name i rest) h r fits has q st = absurd h
known o b cs Q high x d up depth l s (subdirectory name i own rest) h r fits has q st =
    let g = references o b in
    let s1 = after_list s own in
    let s' = after_names s1 own in
    let e = names_onward cs s' rest h.3 in
    let list = added ListOf (pad4 s.at) (list_len own) in
    let ps = parts_both b (parts o cs s1 own) (parts o cs s' rest) has.1 in
    let q1 = every_right Q list (spans s1 own ++ spans s' rest) q in
    let inner = known o b cs Q high (g.own x) l d (depth + 1) (pad4 s.at) s1 own h.2 r.1 (omega (arith, e, fits)) ps.0
    (every_left Q (spans s1 own) (spans s' rest) q1) st in
    let later = known o b cs Q high (g.after x) d up depth (l + entry_len name) s' rest h.3 r.2 fits ps.1
    (every_right Q (spans s1 own) (spans s' rest) q1) inner.tables in
    let head : Row = record { offset = l; reference = x; directory = d; parent = up; depth = depth } in
    let type : type_of o b l ≡ 4 = r.0.type ∙ ap type_bits h.1.kind in
    let mine : Every Q (row_extents o b head) = row_every Q o b head
    (λ _ z. let w = own_list o b l s own r.0.offset_is r.0.size_is z in added_known Q (pad4 s.at) (list_len own)
    (offset_of o b l) (size_of o b l) w r.0.size_is z (every_left Q list (spans s1 own ++ spans s' rest) q))
    (λ z. absurd (false≢true (sym (ap has_data type) ∙ z))) in
    record {
      rows_known = (
        mine,
        every_join (λ (y : Row). Every Q (row_extents o b y))
            (rows g (g.own x) l d (depth + 1) (spots (pad4 s.at) s1 own))
            (rows g (g.after x) d up depth (spots (l + entry_len name) s' rest)) inner.rows_known later.rows_known,
      );
      tables = later.tables;
    }
