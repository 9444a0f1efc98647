-- What holds of each table that a file has for itself holds of the table of each item.
use Rattle.std.proofs.Common.{◌≡◌, ◌≢◌, ℕ, ◌+◌, ◌*◌, List, ◌++◌, length, refl, sym, ap, subst, ◌∙◌, arith, inl, inr}
use Rattle.std.proofs.lemmas.Bool.Decides.{eqb_tells}
use Rattle.std.specs.List.{AllByRecursion as Every}
use Rattle.record_forest.proofs.Lists.{every_join}
use Rattle.cramfs_format.specs.declared.order.Order.{Order}
use Rattle.cramfs_format.specs.Inode.{block_count}
use Rattle.rom_fields.specs.Padding.{pad}
use Rattle.manifest_tree.specs.Names.{Fill, no_bytes, text, source, Inode, Names, nothing, leaf, link, subdirectory}
use Rattle.manifest_tree.specs.Names.{bytes_of}
use Rattle.manifest_tree.specs.Items.{Item}
use Rattle.cramfs_layout.specs.Layout.{pad4, entry_len, State, Table, Kept, nowhere, shared, fresh, kept, kept_by}
use Rattle.cramfs_layout.specs.Layout.{data_of, with_table, after_by, after_file, after_list, after_names}
use Rattle.cramfs_layout.specs.Items.{AreAlignedBy, kept_item, entries, below}
use Rattle.cramfs_layout.specs.Wells.{IsFile, AreWell}
use Rattle.cramfs_layout.proofs.Stored.{shared_by, none_by, stored_with}

-- for a file that has its own table, F holds for the offsets of the table and of its bytes, and for their number
abbrev pub FileFresh : (ℕ → ℕ → ℕ → Type 0) → State → Inode → Kept → Type 0
FileFresh F s i nowhere = Unit {0}
FileFresh F s i (shared t) = Unit {0}
FileFresh F s i fresh = i.size ≢ 0 → F (pad4 s.at) (data_of s.at i) i.size

abbrev pub AllFresh : (ℕ → ℕ → ℕ → Type 0) → State → Names → Type 0
AllFresh F s nothing = Unit {0}
AllFresh F s (leaf name i rest) = FileFresh F s i (kept s.tables i) × AllFresh F (after_file s i) rest
AllFresh F s (link name i rest) = ⊥
AllFresh F s (subdirectory name i own rest) =
    AllFresh F (after_list s own) own × AllFresh F (after_names (after_list s own) own) rest

abbrev pub IsTabled : (ℕ → ℕ → ℕ → Type 0) → Item → Type 0
IsTabled F i = i.len ≢ 0 → F i.table i.start i.len

abbrev TableStands : List (List ℕ) → (ℕ → ℕ) → (ℕ → ℕ → ℕ → Type 0) → Table → Type 0
TableStands cs A F x =
    let len = length (bytes_of cs (source x.source)) in
    len ≢ 0 → F x.place (pad (pad4 x.place + 4 * block_count len) (A x.source)) len

tables_more : (cs : List (List ℕ)) (A : ℕ → ℕ) (F : ℕ → ℕ → ℕ → Type 0) (f : Fill) (p : ℕ) (ts : List Table)
    → ((k : ℕ) → f ≡ source k → TableStands cs A F (record { source = k; place = p })) → Every (TableStands cs A F) ts
    → Every (TableStands cs A F) (with_table f p ts)
tables_more cs A F no_bytes p ts h t = t
tables_more cs A F (text x) p ts h t = t
tables_more cs A F (source k) p ts h t = (h k refl, t)

-- the same file for equal numbers
same_stands : (F : ℕ → ℕ → ℕ → Type 0) (t d e n m : ℕ) → d ≡ e → n ≡ m → F t d n → F t e m
same_stands F t d e n m p q h = subst (λ (x : ℕ). F t e x) q (subst (λ (x : ℕ). F t x n) p h)

file_tabled : (o : Order) (cs : List (List ℕ)) (A : ℕ → ℕ) (F : ℕ → ℕ → ℕ → Type 0) (l : ℕ) (name : List ℕ) (s : State)
    (i : Inode) (k : Kept)
    → IsFile cs i → ((j : ℕ) → i.fill ≡ source j → i.align ≡ A j) → kept s.tables i ≡ k
    → FileFresh F s i k → Every (TableStands cs A F) s.tables
    → IsTabled F (kept_item o l s.at name i k) × Every (TableStands cs A F) (after_by k s i).tables
unfolding kept data_of
file_tabled o cs A F l name s i nowhere h al e r ts = (
  (λ n. elim (eqb_tells i.size 0) [
    | inl z ↦ absurd (n z.1)
    | inr z ↦
        let e' : kept_by s.tables i.fill ≡ nowhere = (rw z.0 at e) in
        let m : length (bytes_of cs i.fill) ≡ 0 =
        ap (λ (f : Fill). length (bytes_of cs f)) (none_by s.tables i.fill e') in
        absurd (n (sym h.bytes ∙ m))
  ]),
  ts,
)
file_tabled o cs A F l name s i (shared t) h al e r ts = (
  (λ n. elim (eqb_tells i.size 0) [
    | inl z ↦ absurd (n z.1)
    | inr z ↦
        let e' : kept_by s.tables i.fill ≡ shared t = (rw z.0 at e) in
        let k = shared_by s.tables i.fill t e' in
        let m : length (bytes_of cs (source k.0)) ≡ i.size =
        ap (λ (f : Fill). length (bytes_of cs f)) (sym k.1) ∙ h.bytes in
        let stands = stored_with (TableStands cs A F) s.tables k.0 t ts k.2 (λ u. n (sym m ∙ u)) in
        same_stands F t (pad (pad4 t + 4 * block_count (length (bytes_of cs (source k.0)))) (A k.0))
        (pad (pad4 t + 4 * block_count i.size) i.align) (length (bytes_of cs (source k.0))) i.size
        (ap (λ (v : ℕ). pad (pad4 t + 4 * block_count v) (A k.0)) m
        ∙ ap (λ (v : ℕ). pad (pad4 t + 4 * block_count i.size) v) (sym (al k.0 k.1))) m stands
  ]),
  ts,
)
file_tabled o cs A F l name s i fresh h al e r ts =
    let mine : i.size ≢ 0 → F (pad4 s.at) (data_of s.at i) i.size = r in
    let twice : pad4 s.at ≡ pad4 (pad4 s.at) = omega arith in (
      mine,
      tables_more cs A F i.fill (pad4 s.at) s.tables (λ k f n.
          let m : length (bytes_of cs (source k)) ≡ i.size =
          ap (λ (g : Fill). length (bytes_of cs g)) (sym f) ∙ h.bytes in
          same_stands F (pad4 s.at) (data_of s.at i)
          (pad (pad4 (pad4 s.at) + 4 * block_count (length (bytes_of cs (source k)))) (A k)) i.size
          (length (bytes_of cs (source k)))
          (ap (λ (v : ℕ). pad (v + 4 * block_count i.size) i.align) twice
          ∙ ap (λ (v : ℕ). pad (pad4 (pad4 s.at) + 4 * block_count v) i.align) (sym m)
          ∙ ap (λ (v : ℕ). pad (pad4 (pad4 s.at) + 4 * block_count (length (bytes_of cs (source k)))) v) (al k f))
          (sym m) (mine (λ u. n (m ∙ u)))) ts,
    )

-- what is known of the items of names, and of the tables after them
pub record AreTabled (o : Order) (cs : List (List ℕ)) (A : ℕ → ℕ) (F : ℕ → ℕ → ℕ → Type 0) (l : ℕ) (s : State)
    (n : Names) : Type 0 where
  pub here : Every (IsTabled F) (entries o l s n)
  pub under : Every (IsTabled F) (below o s n)
  pub tables : Every (TableStands cs A F) (after_names s n).tables

pub all_tabled : (o : Order) (cs : List (List ℕ)) (A : ℕ → ℕ) (F : ℕ → ℕ → ℕ → Type 0) (l : ℕ) (s : State) (n : Names)
    → AreWell cs n → AreAlignedBy A n → AllFresh F s n → Every (TableStands cs A F) s.tables
    → AreTabled o cs A F l s n
all_tabled o cs A F l s nothing h a r ts = record { here = tt; under = tt; tables = ts }
all_tabled o cs A F l s (leaf name i rest) h a r ts =
    let k = kept s.tables i in
    let one = file_tabled o cs A F l name s i k h.1 a.0 refl r.0 ts in
    let more = all_tabled o cs A F (l + entry_len name) (after_file s i) rest h.2 a.1 r.1 one.1 in
    record { here = (one.0, more.here); under = more.under; tables = more.tables }
all_tabled o cs A F l s (link name i rest) h a r ts = absurd h
all_tabled o cs A F l s (subdirectory name i own rest) h a r ts =
    let s1 = after_list s own in
    let s2 = after_names s1 own in
    let mine = all_tabled o cs A F (pad4 s.at) s1 own h.2 a.0 r.0 ts in
    let more = all_tabled o cs A F (l + entry_len name) s2 rest h.3 a.1 r.1 mine.tables in
    record {
      here = ((λ n. absurd (n refl)), more.here);
      under = every_join (IsTabled F) (entries o (pad4 s.at) s1 own) (below o s1 own ++ below o s2 rest) mine.here
          (every_join (IsTabled F) (below o s1 own) (below o s2 rest) mine.under more.under);
      tables = more.tables;
    }

-- an item with no bytes has its table at 0
abbrev pub IsBare : Item → Type 0
IsBare i = i.len ≡ 0 → i.table ≡ 0

bare_item : (o : Order) (l : ℕ) (name : List ℕ) (s : State) (i : Inode)
    → IsBare (kept_item o l s.at name i (kept s.tables i))
unfolding kept
bare_item o l name s i z = rw z refl

pub entries_bare : (o : Order) (l : ℕ) (s : State) (n : Names) → Every IsBare (entries o l s n)
entries_bare o l s nothing = tt
entries_bare o l s (leaf name i rest) =
    (bare_item o l name s i, entries_bare o (l + entry_len name) (after_file s i) rest)
entries_bare o l s (link name i rest) =
    (bare_item o l name s i, entries_bare o (l + entry_len name) (after_file s i) rest)
entries_bare o l s (subdirectory name i own rest) =
    ((λ z. refl), entries_bare o (l + entry_len name) (after_names (after_list s own) own) rest)

pub below_bare : (o : Order) (s : State) (n : Names) → Every IsBare (below o s n)
below_bare o s nothing = tt
below_bare o s (leaf name i rest) = below_bare o (after_file s i) rest
below_bare o s (link name i rest) = below_bare o (after_file s i) rest
below_bare o s (subdirectory name i own rest) =
    let s1 = after_list s own in
    let s2 = after_names s1 own in
    every_join IsBare (entries o (pad4 s.at) s1 own) (below o s1 own ++ below o s2 rest)
    (entries_bare o (pad4 s.at) s1 own)
    (every_join IsBare (below o s1 own) (below o s2 rest) (below_bare o s1 own) (below_bare o s2 rest))
