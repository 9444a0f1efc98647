-- The tables and the bytes of items are at their offsets, also of those that share them.
use Rattle.std.proofs.Common.{◌≡◌, ◌≢◌, ℕ, ◌+◌, ◌*◌, List, [], ◌++◌, length, inl, inr, refl, sym, ap, subst, ◌∙◌, arith}
use Rattle.std.proofs.lemmas.Bool.Decides.{eqb_tells}
use Rattle.std.specs.List.{AllByRecursion as Every}
use Rattle.record_forest.proofs.Lists.{every_join}
use Rattle.cramfs_format.specs.declared.order.Order.{Order}
use Rattle.cramfs_format.specs.Inode.{block_count}
use Rattle.rom_fields.specs.Padding.{pad}
use Rattle.rom_fields.specs.Parts.{HasAt, HasParts}
use Rattle.manifest_tree.specs.Names.{Fill, no_bytes, text, source, Inode, Names, nothing, leaf, link, subdirectory}
use Rattle.manifest_tree.specs.Names.{bytes_of}
use Rattle.manifest_tree.specs.Items.{Item}
use Rattle.cramfs_layout.specs.Layout.{entry_len, pointers, pad4, State, Table, Kept, nowhere, shared, fresh, kept}
use Rattle.cramfs_layout.specs.Layout.{kept_by, data_of, with_table, file_parts, parts, after_by, after_file}
use Rattle.cramfs_layout.specs.Layout.{after_list, after_names}
use Rattle.cramfs_layout.specs.Items.{AreAlignedBy, kept_item, entries, below}
use Rattle.cramfs_layout.specs.Wells.{IsFile, AreWell}
use Rattle.cramfs_layout.proofs.Stored.{shared_by, none_by, stored_with, parts_both}

-- a table at t to blocks at d that hold the bytes
abbrev pub FilledAt : Order → List (List ℕ) → List ℕ → ℕ → ℕ → Fill → Type 0
FilledAt o cs b t d f = HasAt b t (pointers o d (block_count (length (bytes_of cs f)))) × HasAt b d (bytes_of cs f)

-- an item's bytes and the table to them, if it has any
abbrev pub IsFilled : Order → List (List ℕ) → List ℕ → Item → Type 0
IsFilled o cs b i = i.len ≢ 0 → (length (bytes_of cs i.fill) ≡ i.len) × FilledAt o cs b i.table i.start i.fill

-- the offset of a source's blocks, behind its table at t
abbrev blocks_of : List (List ℕ) → (ℕ → ℕ) → ℕ → ℕ → ℕ
blocks_of cs A t k = pad (pad4 t + 4 * block_count (length (bytes_of cs (source k)))) (A k)

abbrev TableFilled : Order → List (List ℕ) → (ℕ → ℕ) → List ℕ → Table → Type 0
TableFilled o cs A b x =
    length (bytes_of cs (source x.source)) ≢ 0
    → FilledAt o cs b x.place (blocks_of cs A x.place x.source) (source x.source)

tables_more : (P : Table → Type 0) (f : Fill) (p : ℕ) (ts : List Table)
    → ((k : ℕ) → f ≡ source k → P (record { source = k; place = p })) → Every P ts → Every P (with_table f p ts)
tables_more P no_bytes p ts h t = t
tables_more P (text x) p ts h t = t
tables_more P (source k) p ts h t = (h k refl, t)

-- the blocks of a file with the contents of a source
same_blocks : (cs : List (List ℕ)) (A : ℕ → ℕ) (t : ℕ) (i : Inode) (k : ℕ) → IsFile cs i
    → ((j : ℕ) → i.fill ≡ source j → i.align ≡ A j) → i.fill ≡ source k → blocks_of cs A t k ≡ data_of t i
unfolding data_of
same_blocks cs A t i k h al f =
    let m : length (bytes_of cs (source k)) ≡ i.size = ap (λ (g : Fill). length (bytes_of cs g)) (sym f) ∙ h.bytes in
    ap (λ (v : ℕ). pad (pad4 t + 4 * block_count v) (A k)) m
    ∙ ap (λ (v : ℕ). pad (pad4 t + 4 * block_count i.size) v) (sym (al k f))

same_data : (from : ℕ) (i : Inode) → data_of (pad4 from) i ≡ data_of from i
unfolding data_of
same_data from i =
    let e : pad4 (pad4 from) ≡ pad4 from = omega arith in ap (λ (v : ℕ). pad (v + 4 * block_count i.size) i.align) e

file_filled : (o : Order) (cs : List (List ℕ)) (A : ℕ → ℕ) (b : List ℕ) (l : ℕ) (name : List ℕ) (s : State) (i : Inode)
    (k : Kept)
    → IsFile cs i → ((j : ℕ) → i.fill ≡ source j → i.align ≡ A j) → kept s.tables i ≡ k
    → HasParts b (file_parts o cs k s i) → Every (TableFilled o cs A b) s.tables
    → IsFilled o cs b (kept_item o l s.at name i k) × Every (TableFilled o cs A b) (after_by k s i).tables
unfolding kept
file_filled o cs A b l name s i nowhere h al e has ts = (
  (λ n. elim (eqb_tells i.size 0) [
    | inl z ↦ absurd (n z.1)
    | inr z ↦
        let e' : kept_by s.tables i.fill ≡ nowhere = (rw z.0 at e) in
        let m : length (bytes_of cs i.fill) ≡ 0 =
        ap (λ (f : Fill). length (bytes_of cs f)) (none_by s.tables i.fill e') in
        absurd (n (sym h.bytes ∙ m))
  ]),
  ts,
)
file_filled o cs A b l name s i (shared t) h al e has ts = (
  (λ n. elim (eqb_tells i.size 0) [
    | inl z ↦ absurd (n z.1)
    | inr z ↦
        let e' : kept_by s.tables i.fill ≡ shared t = (rw z.0 at e) in
        let k = shared_by s.tables i.fill t e' in
        let m : length (bytes_of cs (source k.0)) ≡ i.size =
        ap (λ (f : Fill). length (bytes_of cs f)) (sym k.1) ∙ h.bytes in
        let stands = stored_with (TableFilled o cs A b) s.tables k.0 t ts k.2 (λ u. n (sym m ∙ u)) in
        let there = subst (λ (v : ℕ). FilledAt o cs b t v (source k.0)) (same_blocks cs A t i k.0 h al k.1) stands in
        (h.bytes, subst (λ (f : Fill). FilledAt o cs b t (data_of t i) f) (sym k.1) there)
  ]),
  ts,
)
file_filled o cs A b l name s i fresh h al e has ts =
    let d = data_of s.at i in
    let mine : FilledAt o cs b (pad4 s.at) d i.fill =
    (subst (λ (v : ℕ). HasAt b (pad4 s.at) (pointers o d (block_count v))) (sym h.bytes) has.0, has.1.0) in
    let twice : data_of (pad4 s.at) i ≡ d = same_data s.at i in (
      (λ n. (h.bytes, mine)),
      tables_more (TableFilled o cs A b) i.fill (pad4 s.at) s.tables (λ k f n.
          let there : FilledAt o cs b (pad4 s.at) d (source k) =
          subst (λ (g : Fill). FilledAt o cs b (pad4 s.at) d g) f mine in
          subst (λ (v : ℕ). FilledAt o cs b (pad4 s.at) v (source k))
          (sym (same_blocks cs A (pad4 s.at) i k h al f ∙ twice)) there) ts,
    )

-- the bytes of the items of names, and of the tables after them
pub record AreFilled (o : Order) (cs : List (List ℕ)) (A : ℕ → ℕ) (b : List ℕ) (l : ℕ) (s : State)
    (n : Names) : Type 0 where
  pub here : Every (IsFilled o cs b) (entries o l s n)
  pub under : Every (IsFilled o cs b) (below o s n)
  tables : Every (TableFilled o cs A b) (after_names s n).tables

all_filled : (o : Order) (cs : List (List ℕ)) (A : ℕ → ℕ) (b : List ℕ) (l : ℕ) (s : State) (n : Names)
    → AreWell cs n → AreAlignedBy A n → HasParts b (parts o cs s n) → Every (TableFilled o cs A b) s.tables
    → AreFilled o cs A b l s n
all_filled o cs A b l s nothing h a has ts = record { here = tt; under = tt; tables = ts }
all_filled o cs A b l s (leaf name i rest) h a has ts =
    let k = kept s.tables i in
    let ps = file_parts o cs k s i in
    let qs = parts o cs (after_file s i) rest in
    let one = file_filled o cs A b l name s i k h.1 a.0 refl (parts_both b ps qs has).0 ts in
    let more =
    all_filled o cs A b (l + entry_len name) (after_file s i) rest h.2 a.1 (parts_both b ps qs has).1 one.1 in
    record { here = (one.0, more.here); under = more.under; tables = more.tables }
all_filled o cs A b l s (link name i rest) h a has ts = absurd h
all_filled o cs A b l s (subdirectory name i own rest) h a has ts =
    let s1 = after_list s own in
    let s2 = after_names s1 own in
    let ps = parts o cs s1 own in
    let qs = parts o cs s2 rest in
    let mine = all_filled o cs A b (pad4 s.at) s1 own h.2 a.0 (parts_both b ps qs has.1).0 ts in
    let more = all_filled o cs A b (l + entry_len name) s2 rest h.3 a.1 (parts_both b ps qs has.1).1 mine.tables in
    record {
      here = ((λ n. absurd (n refl)), more.here);
      under = every_join (IsFilled o cs b) (entries o (pad4 s.at) s1 own) (below o s1 own ++ below o s2 rest) mine.here
          (every_join (IsFilled o cs b) (below o s1 own) (below o s2 rest) mine.under more.under);
      tables = more.tables;
    }

-- all of them, behind the superblock and the root's list
pub are_filled : (o : Order) (cs : List (List ℕ)) (A : ℕ → ℕ) (b : List ℕ) (l : ℕ) (s : State) (n : Names)
    → s.tables ≡ []
    → AreWell cs n → AreAlignedBy A n → HasParts b (parts o cs s n)
    → Every (IsFilled o cs b) (entries o l s n) × Every (IsFilled o cs b) (below o s n)
are_filled o cs A b l s n none h a has =
    let r = all_filled o cs A b l s n h a has (subst (Every (TableFilled o cs A b)) (sym none) tt) in
    (r.here, r.under)
