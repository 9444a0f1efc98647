-- Lists, tables and blocks that were laid are read back.
use Rattle.std.proofs.Common.{◌≡◌, ℕ, ◌+◌, ◌-◌, ◌*◌, ◌/◌, ◌%◌, ◌^◌, ◌<◌, ◌≤◌, List, [], ◌∷◌, ◌++◌, length, refl, sym}
use Rattle.std.proofs.Common.{ap, subst, ◌∙◌, arith, inl, inr, Some, None}
use Rattle.std.proofs.lemmas.Bool.{ne_eqb}
use Rattle.std.proofs.lemmas.Bool.Decides.{eqb_tells}
use Rattle.std.specs.List.{AllByRecursion as Every}
use Rattle.rom_tree.specs.declared.types.Kind.{Kind}
use Rattle.rom_tree.specs.declared.types.Kind.TheVariants.{Directory, Regular, Symlink, Block, Character, Socket, Fifo}
use Rattle.cramfs_format.specs.declared.order.Order.{Order}
use Rattle.cramfs_format.specs.Inode.{block_count}
use Rattle.rom_fields.specs.Parts.{Part, HasAt, HasParts}
use Rattle.manifest_tree.specs.Names.{Fill, no_bytes, text, source, Inode, Names, nothing, leaf, link, subdirectory}
use Rattle.manifest_tree.specs.Names.{bytes_of}
use Rattle.rom_fields.specs.Padding.{pad}
use Rattle.rom_fields.proofs.Padding.{pad-after}
use Rattle.rom_fields.proofs.Parts.{HasAt-before, HasAt-after, HasAt-moved}
use Rattle.cramfs_layout.specs.Layout.{pad4, size_by, entry_len, entry_bytes, list_len, State, Table, table_with, Kept}
use Rattle.cramfs_layout.specs.Layout.{nowhere, shared, fresh, kept, kept_by, kept_with, data_of, with_table, table_by}
use Rattle.cramfs_layout.specs.Layout.{after_by, after_file, after_list, after_names, list_offset, list_bytes, pointers}
use Rattle.cramfs_layout.specs.Layout.{file_parts, parts}
use Rattle.cramfs_layout.specs.Reads.{IsEntry}
use Rattle.cramfs_layout.specs.Wells.{FitsKind, IsFile, AreWell, IsStored, AreStored, AllRead}
use Rattle.cramfs_layout.proofs.Entries.{length-entry, entry_reads}

times4 : (x m : ℕ) → (x * (4 * m)) % 4 ≡ 0
times4 x m = omega arith

pad_even : (n k m : ℕ) → k ≡ 4 * m → pad n k % 4 ≡ 0
pad_even n k m h = let x = (n + (k - 1)) / k in ap (λ (z : ℕ). (x * z) % 4) h ∙ times4 x m

-- the offset of data: behind the table, a multiple of 4
pub data_after : (cs : List (List ℕ)) (from : ℕ) (i : Inode) → IsFile cs i
    → (pad4 from + 4 * block_count i.size ≤ data_of from i) × (data_of from i % 4 ≡ 0)
unfolding data_of
data_after cs from i h =
    let k : 0 < i.align = let s = h.some in let a = h.aligned in omega (arith, a) in (
      pad-after (pad4 from + 4 * block_count i.size) i.align k,
      pad_even (pad4 from + 4 * block_count i.size) i.align h.fours h.aligned,
    )

-- the ways to keep a file
pub shared_by : (ts : List Table) (f : Fill) (t : ℕ) → kept_by ts f ≡ shared t
    → (k : ℕ) × (f ≡ source k) × (table_with ts k ≡ Some t)
shared_by ts no_bytes t e = absurd (cc)
shared_by ts (text x) t e = absurd (cc)
shared_by ts (source k) t e = (
  k,
  refl,
  elim (table_with ts k) as (λ o. kept_with o ≡ shared t → o ≡ Some t)
      [ None ↦ λ z. absurd (cc) | Some u ↦ λ z. cc ] e,
)

pub none_by : (ts : List Table) (f : Fill) → kept_by ts f ≡ nowhere → f ≡ no_bytes
none_by ts no_bytes e = refl
none_by ts (text x) e = absurd (cc)
none_by ts (source k) e = absurd (elim (table_with ts k) as (λ o. kept_with o ≡ nowhere → ⊥)
    [ None ↦ λ z. absurd (cc) | Some u ↦ λ z. absurd (cc) ] e)

pub stored_with : (P : Table → Type 0) (ts : List Table) (k t : ℕ) → Every P ts → table_with ts k ≡ Some t
    → P (record { source = k; place = t })
stored_with P [] k t h e = absurd (cc)
stored_with P (x ∷ xs) k t h e = elim (eqb_tells x.source k) [
  | inl y ↦ let z : Some x.place ≡ Some t =
      (rw y.0 at e) in let p : x.place ≡ t =
      cc in let q = y.1 in subst P (λ j. record { source = q j; place = p j }) h.0
  | inr y ↦ stored_with P xs k t h.1 (rw y.0 at e)
]

-- a file, after which more tables are stored
record IsKept (o : Order) (b : List ℕ) (cs : List (List ℕ)) (high : ℕ) (s : State) (i : Inode) (k : Kept) : Type 0 where
  stored : 0 < i.size → IsStored o b (bytes_of cs i.fill) high (table_by k s.at)
  tables : AreStored o b cs high (after_by k s i).tables
  onward : s.at ≤ (after_by k s i).at

tables_more : (o : Order) (b : List ℕ) (cs : List (List ℕ)) (high place : ℕ) (f : Fill) (ts : List Table)
    → IsStored o b (bytes_of cs f) high place → AreStored o b cs high ts
    → AreStored o b cs high (with_table f place ts)
tables_more o b cs high place no_bytes ts h k = k
tables_more o b cs high place (text x) ts h k = k
tables_more o b cs high place (source n) ts h k = (h, k)

kept_one : (o : Order) (b : List ℕ) (cs : List (List ℕ)) (high : ℕ) (s : State) (i : Inode) (k : Kept) → IsFile cs i
    → kept s.tables i ≡ k → 76 ≤ s.at → (after_by k s i).at ≤ high → AreStored o b cs high s.tables
    → HasParts b (file_parts o cs k s i)
    → IsKept o b cs high s i k
unfolding kept
kept_one o b cs high s i nowhere h e low fits st has = record {
  stored = λ z.
      let e' : kept_by s.tables i.fill ≡ nowhere = (rw (ne_eqb i.size 0 (λ y. absurd (omega (arith, y, z)))) at e) in
      let n : length (bytes_of cs i.fill) ≡ 0 =
      ap (λ (f : Fill). length (bytes_of cs f)) (none_by s.tables i.fill e') in
      let l = h.bytes in
      absurd (omega (arith, l, n, z));
  tables = st;
  onward = omega arith;
}
kept_one o b cs high s i (shared t) h e low fits st has = record {
  stored = λ z.
      let e' : kept_by s.tables i.fill ≡ shared t = (rw (ne_eqb i.size 0 (λ y. absurd (omega (arith, y, z)))) at e) in
      let k = shared_by s.tables i.fill t e' in
      subst (λ (f : Fill). IsStored o b (bytes_of cs f) high t) (sym k.1)
      (stored_with (λ (x : Table). IsStored o b
      (bytes_of cs (source x.source)) high x.place) s.tables k.0 t st k.2);
  tables = st;
  onward = omega arith;
}
kept_one o b cs high s i fresh h e low fits st has =
    let l = h.bytes in
    let d = data_after cs s.at i h in
    let d0 = d.0 in
    let stored : IsStored o b (bytes_of cs i.fill) high (pad4 s.at) = record {
      place = data_of s.at i;
      table = subst (λ (n : ℕ). HasAt b (pad4 s.at) (pointers o (data_of s.at i) (block_count n))) (sym l) has.0;
      content = has.1.0;
      low = omega arith;
      even = omega arith;
      place_even = d.1;
      behind = omega (arith, d0, l);
      within = omega (arith, l);
    } in
    record {
      stored = λ _. stored;
      tables = tables_more o b cs high (pad4 s.at) i.fill s.tables stored st;
      onward = omega (arith, d0);
    }

pub parts_both : (b : List ℕ) (ps qs : List Part) → HasParts b (ps ++ qs) → HasParts b ps × HasParts b qs
parts_both b [] qs h = (tt, h)
parts_both b (p ∷ ps) qs h = let r = parts_both b ps qs h.1 in ((h.0, r.0), r.1)

pub file_onward : (cs : List (List ℕ)) (s : State) (i : Inode) → IsFile cs i → s.at ≤ (after_file s i).at
file_onward cs s i h = elim (kept s.tables i) as (λ k. s.at ≤ (after_by k s i).at) [
  | nowhere ↦ omega arith
  | shared t ↦ omega arith
  | fresh ↦ let d = (data_after cs s.at i h).0 in omega (arith, d)
]

pub names_onward : (cs : List (List ℕ)) (s : State) (n : Names) → AreWell cs n → s.at ≤ (after_names s n).at
names_onward cs s nothing h = omega arith
names_onward cs s (leaf name i rest) h =
    let a = file_onward cs s i h.1 in
    let e = names_onward cs (after_file s i) rest h.2 in
    omega (arith, a, e)
names_onward cs s (link name i rest) h = absurd h
names_onward cs s (subdirectory name i own rest) h =
    let a = names_onward cs (after_list s own) own h.2 in
    let e = names_onward cs (after_names (after_list s own) own) rest h.3 in
    omega (arith, a, e)

-- the table of a file fits an inode
table_small : (o : Order) (b : List ℕ) (cs : List (List ℕ)) (high : ℕ) (s : State) (i : Inode) (k : Kept)
    → IsFile cs i → kept s.tables i ≡ k → IsKept o b cs high s i k → high ≤ 2 ^ 28
    → (table_by k s.at < 2 ^ 28) × (table_by k s.at % 4 ≡ 0)
unfolding kept
table_small o b cs high s i nowhere h e w l = (omega arith, refl)
table_small o b cs high s i (shared t) h e w l = elim (eqb_tells i.size 0) [
  | inl y ↦ let z : nowhere ≡ shared t = (rw y.0 at e) in absurd (cc)
  | inr y ↦
      let m = h.bytes in
      let n = y.1 in
      let st = w.stored (omega (arith, n)) in
      let a = st.behind in
      let c = st.within in
      let len = length (bytes_of cs i.fill) in
      (omega (arith, m, n, a, c), st.even)
]
table_small o b cs high s i fresh h e w l = elim (eqb_tells i.size 0) [
  | inl y ↦ let z : nowhere ≡ fresh = (rw y.0 at e) in absurd (cc)
  | inr y ↦
      let m = h.bytes in
      let n = y.1 in
      let st = w.stored (omega (arith, n)) in
      let a = st.behind in
      let c = st.within in
      (omega (arith, m, n, a, c), omega arith)
]

size_small : (k : Kind) (i : Inode) → FitsKind k i → i.size < 2 ^ 24 → size_by k i < 2 ^ 24
size_small Directory i h l = absurd h
size_small Regular i h l = l
size_small Symlink i h l = l
size_small Block i h l = let a = h.0 in let c = h.1 in omega arith
size_small Character i h l = let a = h.0 in let c = h.1 in omega arith
size_small Socket i h l = l
size_small Fifo i h l = l

list_small : (from high : ℕ) (own : Names) → pad4 from + list_len own ≤ high → high ≤ 2 ^ 28
    → (list_offset from own < 2 ^ 28) × (list_offset from own % 4 ≡ 0)
list_small from high nothing h l = (omega arith, refl)
list_small from high (leaf name i after) h l = (omega arith, omega arith)
list_small from high (link name i after) h l = (omega arith, omega arith)
list_small from high (subdirectory name i own after) h l = (omega arith, omega arith)

pub record Read (o : Order) (b : List ℕ) (cs : List (List ℕ)) (high l : ℕ) (s : State) (n : Names) : Type 0 where
  pub all : AllRead o b cs high l s n
  pub tables : AreStored o b cs high (after_names s n).tables

pub all_read : (o : Order) (b : List ℕ) (cs : List (List ℕ)) (high l : ℕ) (s : State) (n : Names) → AreWell cs n
    → 76 ≤ s.at → (after_names s n).at ≤ high → high ≤ 2 ^ 28 → AreStored o b cs high s.tables
    → HasAt b l (list_bytes o s n) → HasParts b (parts o cs s n) → Read o b cs high l s n
all_read o b cs high l s nothing h low fits top st list has = record { all = tt; tables = st }
all_read o b cs high l s (leaf name i rest) h low fits top st list has =
    let s' = after_file s i in
    let k = kept s.tables i in
    let ps = parts_both b (file_parts o cs k s i) (parts o cs s' rest) has in
    let a = file_onward cs s i h.1 in
    let e = names_onward cs s' rest h.2 in
    let one = kept_one o b cs high s i k h.1 refl low (omega (arith, e, fits)) st ps.0 in
    let t = table_small o b cs high s i k h.1 refl one top in
    let entry = entry_bytes o name i (size_by i.kind i) (table_by k s.at) in
    let len = length-entry o name i (size_by i.kind i) (table_by k s.at) in
    let next = HasAt-moved b (l + length entry) (l + entry_len name) (list_bytes o s' rest) (omega (arith, len))
    (HasAt-after b l entry (list_bytes o s' rest) list) in
    let later =
    all_read o b cs high (l + entry_len name) s' rest h.2 (omega (arith, a)) fits top one.tables next ps.1 in
    let w : IsEntry name i (size_by i.kind i) (table_by k s.at) = record {
      mode = h.1.mode;
      uid = h.1.owner.0;
      size_small = size_small i.kind i h.1.kind h.1.small;
      gid = h.1.owner.1;
      short = h.0.1;
      offset_small = t.0;
      offset_even = t.1;
      no_zero = h.0.0.written.no_zero;
    } in
    record {
      all = (
        entry_reads o b l name i (size_by i.kind i) (table_by k s.at) w
            (HasAt-before b l entry (list_bytes o s' rest) list),
        one.stored,
        later.all,
      );
      tables = later.tables;
    }
all_read o b cs high l s (link name i rest) h low fits top st list has = absurd h
all_read o b cs high l s (subdirectory name i own rest) h low fits top st list has =
    let s1 = after_list s own in
    let s' = after_names s1 own in
    let ps = parts_both b (parts o cs s1 own) (parts o cs s' rest) has.1 in
    let a = names_onward cs s1 own h.2 in
    let e = names_onward cs s' rest h.3 in
    let t = list_small s.at high own (omega (arith, a, e, fits)) top in
    let inner = all_read o b cs high (pad4 s.at) s1 own h.2 (omega arith) (omega (arith, e, fits)) top st has.0 ps.0 in
    let entry = entry_bytes o name i (list_len own) (list_offset s.at own) in
    let len = length-entry o name i (list_len own) (list_offset s.at own) in
    let next = HasAt-moved b (l + length entry) (l + entry_len name) (list_bytes o s' rest) (omega (arith, len))
    (HasAt-after b l entry (list_bytes o s' rest) list) in
    let later =
    all_read o b cs high (l + entry_len name) s' rest h.3 (omega (arith, a)) fits top inner.tables next ps.1 in
    let w : IsEntry name i (list_len own) (list_offset s.at own) = record {
      mode = h.1.mode;
      uid = h.1.owner.0;
      size_small = h.1.small;
      gid = h.1.owner.1;
      short = h.0.1;
      offset_small = t.0;
      offset_even = t.1;
      no_zero = h.0.0.written.no_zero;
    } in
    record {
      all = (
        entry_reads o b l name i (list_len own) (list_offset s.at own) w
            (HasAt-before b l entry (list_bytes o s' rest) list),
        inner.all,
        later.all,
      );
      tables = later.tables;
    }
