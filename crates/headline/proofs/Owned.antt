-- In cramfs each table of block pointers is that of one file, or of all files with the contents of a source.
use Rattle.std.proofs.Common.{◌≡◌, ◌≢◌, ℕ, zero, suc, ◌+◌, ◌*◌, ◌<◌, ◌≤◌, List, [], ◌∷◌, ◌++◌, length, inl, inr}
use Rattle.std.proofs.Common.{refl, sym, ap, subst, ◌∙◌, arith}
use Rattle.std.proofs.lemmas.Bool.Decides.{eqb_tells}
use Rattle.std.specs.List.{AllByRecursion as Every}
use Rattle.record_forest.specs.Members.{Has}
use Rattle.record_forest.proofs.Lists.{every_join}
use Rattle.cramfs_format.specs.declared.order.Order.{Order}
use Rattle.cramfs_format.specs.Inode.{block_count}
use Rattle.rom_fields.specs.Padding.{pad}
use Rattle.manifest_tree.specs.Names.{Fill, no_bytes, text, source, Inode, Names, nothing, leaf, link, subdirectory}
use Rattle.manifest_tree.specs.Names.{bytes_of}
use Rattle.manifest_tree.specs.Items.{Item}
use Rattle.cramfs_layout.specs.Items.{AreAlignedBy, kept_item, entries, below}
use Rattle.cramfs_layout.specs.Layout.{pad4, entry_len, State, Table, Kept, nowhere, shared, fresh, kept, kept_by}
use Rattle.cramfs_layout.specs.Layout.{data_of, with_table, after_by, after_file, after_list, after_names}
use Rattle.cramfs_layout.specs.Wells.{IsFile, AreWell}
use Rattle.cramfs_layout.proofs.Stored.{shared_by, none_by, stored_with, data_after}

-- the table of a file that has its own: its offset, that of its blocks, and their number and bytes
pub record Own : Type 0 where
  pub table : ℕ
  pub start : ℕ
  pub len : ℕ
  pub fill : Fill

abbrev pub own : ℕ → ℕ → ℕ → Fill → Own
own table start len fill = record { table = table; start = start; len = len; fill = fill }

abbrev pub own_of : Kept → State → Inode → List Own
own_of nowhere s i = []
own_of (shared t) s i = []
own_of fresh s i = own (pad4 s.at) (data_of s.at i) i.size i.fill ∷ []

-- all of them, in the order of their offsets
abbrev pub owns : State → Names → List Own
owns s nothing = []
owns s (leaf name i rest) = own_of (kept s.tables i) s i ++ owns (after_file s i) rest
owns s (link name i rest) = owns (after_file s i) rest
owns s (subdirectory name i own rest) =
    owns (after_list s own) own ++ owns (after_names (after_list s own) own) rest

-- the tables are one after the other, from `from` on and before `to`
abbrev pub Rise : ℕ → ℕ → List Own → Type 0
Rise from to [] = from ≤ to
Rise from to (x ∷ xs) = (from ≤ x.table) × Rise (x.table + 1) to xs

rise_later : (from up to : ℕ) (xs : List Own) → from ≤ up → Rise up to xs → Rise from to xs
rise_later from up to [] l h = omega arith
rise_later from up to (x ∷ xs) l h = let a = h.0 in (omega arith, h.1)

rise_join : (from mid to : ℕ) (xs ys : List Own) → Rise from mid xs → Rise mid to ys → Rise from to (xs ++ ys)
rise_join from mid to [] ys h k = rise_later from mid to ys h k
rise_join from mid to (x ∷ xs) ys h k = (h.0, rise_join (x.table + 1) mid to xs ys h.1 k)

pub rise_low : (from to : ℕ) (xs : List Own) (x : Own) → Rise from to xs → Has (λ z. z ≡ x) xs → from ≤ x.table
rise_low from to [] x h m = absurd m
rise_low from to (y ∷ ys) x h (inl e) = let a = h.0 in let t = ap (λ (z : Own). z.table) e in omega (arith, t)
rise_low from to (y ∷ ys) x h (inr m) =
    let a = h.0 in let l = rise_low (y.table + 1) to ys x h.1 m in omega (arith, l)

-- so one offset is that of one table
pub one_own : (from to : ℕ) (xs : List Own) (x y : Own) → Rise from to xs → Has (λ z. z ≡ x) xs → Has (λ z. z ≡ y) xs
    → x.table ≡ y.table → x ≡ y
one_own from to [] x y h m n e = absurd m
one_own from to (z ∷ zs) x y h (inl p) (inl q) e = sym p ∙ q
one_own from to (z ∷ zs) x y h (inl p) (inr n) e =
    let l = rise_low (z.table + 1) to zs y h.1 n in
    let t = ap (λ (v : Own). v.table) p in absurd (omega (arith, t, e))
one_own from to (z ∷ zs) x y h (inr m) (inl q) e =
    let l = rise_low (z.table + 1) to zs x h.1 m in
    let t = ap (λ (v : Own). v.table) q in absurd (omega (arith, t, e))
one_own from to (z ∷ zs) x y h (inr m) (inr n) e = one_own (z.table + 1) to zs x y h.1 m n e

pub some : (n : ℕ) → n ≢ 0 → 0 < n
some zero z = absurd (z refl)
some (suc n) z = omega arith

own_rises : (cs : List (List ℕ)) (s : State) (i : Inode) (k : Kept) → IsFile cs i → kept s.tables i ≡ k
    → Rise s.at (after_by k s i).at (own_of k s i)
unfolding kept
own_rises cs s i nowhere h e = omega arith
own_rises cs s i (shared t) h e = omega arith
own_rises cs s i fresh h e = elim (eqb_tells i.size 0) [
  | inl y ↦ let z : nowhere ≡ fresh = (rw y.0 at e) in absurd (cc)
  | inr y ↦
      let d = (data_after cs s.at i h).0 in
      let n : 0 < i.size = some i.size y.1 in
      (omega arith, omega (arith, d, n))
]

pub owns_rise : (cs : List (List ℕ)) (s : State) (n : Names) → AreWell cs n → Rise s.at (after_names s n).at (owns s n)
owns_rise cs s nothing h = omega arith
owns_rise cs s (leaf name i rest) h =
    let k = kept s.tables i in
    let s1 = after_file s i in
    rise_join s.at s1.at (after_names s1 rest).at (own_of k s i) (owns s1 rest) (own_rises cs s i k h.1 refl)
    (owns_rise cs s1 rest h.2)
owns_rise cs s (link name i rest) h = absurd h
owns_rise cs s (subdirectory name i own rest) h =
    let s1 = after_list s own in
    let s2 = after_names s1 own in
    rise_later s.at s1.at (after_names s2 rest).at (owns s1 own ++ owns s2 rest) (omega arith)
    (rise_join s1.at s2.at (after_names s2 rest).at (owns s1 own) (owns s2 rest) (owns_rise cs s1 own h.2)
    (owns_rise cs s2 rest h.3))

-- what an item with bytes has is one of these
abbrev pub IsOwned : List Own → Item → Type 0
IsOwned xs i = i.len ≢ 0 → Has (λ z. z ≡ own i.table i.start i.len i.fill) xs

-- the table of a source at an offset
abbrev source_own : List (List ℕ) → (ℕ → ℕ) → ℕ → ℕ → Own
source_own cs A t k =
    own t (pad (pad4 t + 4 * block_count (length (bytes_of cs (source k)))) (A k)) (length (bytes_of cs (source k)))
    (source k)

abbrev TableOwned : List (List ℕ) → (ℕ → ℕ) → List Own → Table → Type 0
TableOwned cs A xs x =
    length (bytes_of cs (source x.source)) ≢ 0 → Has (λ z. z ≡ source_own cs A x.place x.source) xs

tables_more : (P : Table → Type 0) (f : Fill) (p : ℕ) (ts : List Table)
    → ((k : ℕ) → f ≡ source k → P (record { source = k; place = p })) → Every P ts → Every P (with_table f p ts)
tables_more P no_bytes p ts h t = t
tables_more P (text x) p ts h t = t
tables_more P (source k) p ts h t = (h k refl, t)

same_own : (t d e n m : ℕ) (f g : Fill) → d ≡ e → n ≡ m → f ≡ g → own t d n f ≡ own t e m g
same_own t d e n m f g p q r = λ j. own t (p j) (q j) (r j)

-- the table of a file with the contents of a source
of_file : (cs : List (List ℕ)) (A : ℕ → ℕ) (t : ℕ) (i : Inode) (k : ℕ) → IsFile cs i
    → ((j : ℕ) → i.fill ≡ source j → i.align ≡ A j) → i.fill ≡ source k
    → source_own cs A t k ≡ own t (data_of t i) i.size i.fill
unfolding data_of
of_file cs A t i k h al f =
    let m : length (bytes_of cs (source k)) ≡ i.size = ap (λ (g : Fill). length (bytes_of cs g)) (sym f) ∙ h.bytes in
    same_own t (pad (pad4 t + 4 * block_count (length (bytes_of cs (source k)))) (A k)) (data_of t i)
    (length (bytes_of cs (source k))) i.size (source k) i.fill
    (ap (λ (v : ℕ). pad (pad4 t + 4 * block_count v) (A k)) m
    ∙ ap (λ (v : ℕ). pad (pad4 t + 4 * block_count i.size) v) (sym (al k f))) m (sym f)

same_data : (from : ℕ) (i : Inode) → data_of (pad4 from) i ≡ data_of from i
unfolding data_of
same_data from i =
    let e : pad4 (pad4 from) ≡ pad4 from = omega arith in ap (λ (v : ℕ). pad (v + 4 * block_count i.size) i.align) e

-- one more file
file_owned : (o : Order) (cs : List (List ℕ)) (A : ℕ → ℕ) (xs : List Own) (l : ℕ) (name : List ℕ) (s : State)
    (i : Inode) (k : Kept) → IsFile cs i → ((j : ℕ) → i.fill ≡ source j → i.align ≡ A j) → kept s.tables i ≡ k
    → ((x : Own) → Has (λ z. z ≡ x) (own_of k s i) → Has (λ z. z ≡ x) xs) → Every (TableOwned cs A xs) s.tables
    → IsOwned xs (kept_item o l s.at name i k) × Every (TableOwned cs A xs) (after_by k s i).tables
unfolding kept
file_owned o cs A xs l name s i nowhere h al e put ts = (
  (λ n. elim (eqb_tells i.size 0) [
    | inl z ↦ absurd (n z.1)
    | inr z ↦
        let e' : kept_by s.tables i.fill ≡ nowhere = (rw z.0 at e) in
        let m : length (bytes_of cs i.fill) ≡ 0 =
        ap (λ (f : Fill). length (bytes_of cs f)) (none_by s.tables i.fill e') in
        absurd (n (sym h.bytes ∙ m))
  ]),
  ts,
)
file_owned o cs A xs l name s i (shared t) h al e put ts = (
  (λ n. elim (eqb_tells i.size 0) [
    | inl z ↦ absurd (n z.1)
    | inr z ↦
        let e' : kept_by s.tables i.fill ≡ shared t = (rw z.0 at e) in
        let k = shared_by s.tables i.fill t e' in
        let m : length (bytes_of cs (source k.0)) ≡ i.size =
        ap (λ (f : Fill). length (bytes_of cs f)) (sym k.1) ∙ h.bytes in
        subst (λ (x : Own). Has (λ z. z ≡ x) xs) (of_file cs A t i k.0 h al k.1)
        (stored_with (TableOwned cs A xs) s.tables k.0 t ts k.2 (λ u. n (sym m ∙ u)))
  ]),
  ts,
)
file_owned o cs A xs l name s i fresh h al e put ts =
    let p = pad4 s.at in
    let mine = own p (data_of s.at i) i.size i.fill in
    let there : Has (λ z. z ≡ mine) xs = put mine (inl refl) in (
      (λ n. there),
      tables_more (TableOwned cs A xs) i.fill p s.tables
          (λ k f n. subst (λ (x : Own). Has (λ z. z ≡ x) xs)
          (ap (λ (d : ℕ). own p d i.size i.fill) (sym (same_data s.at i)) ∙ sym (of_file cs A p i k h al f)) there) ts,
    )

-- members of both parts of a list
pub has_left : {X : Type 0} (P : X → Type 0) (xs ys : List X) → Has P xs → Has P (xs ++ ys)
has_left P [] ys h = absurd h
has_left P (x ∷ xs) ys (inl p) = inl p
has_left P (x ∷ xs) ys (inr h) = inr (has_left P xs ys h)

pub has_right : {X : Type 0} (P : X → Type 0) (xs ys : List X) → Has P ys → Has P (xs ++ ys)
has_right P [] ys h = h
has_right P (x ∷ xs) ys h = inr (has_right P xs ys h)

-- what is known of the items of names, and of the tables after them
pub record AreOwned (o : Order) (cs : List (List ℕ)) (A : ℕ → ℕ) (xs : List Own) (l : ℕ) (s : State)
    (n : Names) : Type 0 where
  pub here : Every (IsOwned xs) (entries o l s n)
  pub under : Every (IsOwned xs) (below o s n)
  tables : Every (TableOwned cs A xs) (after_names s n).tables

all_owned : (o : Order) (cs : List (List ℕ)) (A : ℕ → ℕ) (xs : List Own) (l : ℕ) (s : State) (n : Names)
    → AreWell cs n → AreAlignedBy A n → ((x : Own) → Has (λ z. z ≡ x) (owns s n) → Has (λ z. z ≡ x) xs)
    → Every (TableOwned cs A xs) s.tables → AreOwned o cs A xs l s n
all_owned o cs A xs l s nothing h a put ts = record { here = tt; under = tt; tables = ts }
all_owned o cs A xs l s (leaf name i rest) h a put ts =
    let k = kept s.tables i in
    let mine = own_of k s i in
    let more = owns (after_file s i) rest in
    let one = file_owned o cs A xs l name s i k h.1 a.0 refl
    (λ x m. put x (has_left (λ z. z ≡ x) mine more m)) ts in
    let later = all_owned o cs A xs (l + entry_len name) (after_file s i) rest h.2 a.1
    (λ x m. put x (has_right (λ z. z ≡ x) mine more m)) one.1 in
    record { here = (one.0, later.here); under = later.under; tables = later.tables }
all_owned o cs A xs l s (link name i rest) h a put ts = absurd h
all_owned o cs A xs l s (subdirectory name i own rest) h a put ts =
    let s1 = after_list s own in
    let s2 = after_names s1 own in
    let mine = all_owned o cs A xs (pad4 s.at) s1 own h.2 a.0
    (λ x m. put x (has_left (λ z. z ≡ x) (owns s1 own) (owns s2 rest) m)) ts in
    let later = all_owned o cs A xs (l + entry_len name) s2 rest h.3 a.1
    (λ x m. put x (has_right (λ z. z ≡ x) (owns s1 own) (owns s2 rest) m)) mine.tables in
    record {
      here = ((λ n. absurd (n refl)), later.here);
      under = every_join (IsOwned xs) (entries o (pad4 s.at) s1 own) (below o s1 own ++ below o s2 rest) mine.here
          (every_join (IsOwned xs) (below o s1 own) (below o s2 rest) mine.under later.under);
      tables = later.tables;
    }

pub are_owned : (o : Order) (cs : List (List ℕ)) (A : ℕ → ℕ) (l : ℕ) (s : State) (n : Names) → s.tables ≡ []
    → AreWell cs n → AreAlignedBy A n → AreOwned o cs A (owns s n) l s n
are_owned o cs A l s n none h a =
    all_owned o cs A (owns s n) l s n h a (λ x m. m) (subst (Every (TableOwned cs A (owns s n))) (sym none) tt)

-- a file without bytes has those of no source
pub no_source : {k : ℕ} (i : Inode) (A : Type 0) → i.fill ≡ no_bytes → i.fill ≡ source k → A
no_source {k} i A e f = let z : no_bytes ≡ source k = sym e ∙ f in absurd (cc)
