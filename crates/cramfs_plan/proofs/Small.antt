-- The numbers of the items of a layout are below 2^32.
use Rattle.std.proofs.Common.{◌≡◌, ℕ, ◌+◌, ◌-◌, ◌*◌, ◌/◌, ◌^◌, ◌<◌, ◌≤◌, List, length, refl, arith, inl, inr}
use Rattle.std.proofs.lemmas.Bool.Decides.{eqb_tells}
use Rattle.std.proofs.lemmas.Nat.{div-add-mod'}
use Rattle.std.specs.List.{AllByRecursion as Every}
use Rattle.record_forest.proofs.Lists.{every_join, every_left, every_right}
use Rattle.rom_tree.specs.declared.types.Kind.{Kind}
use Rattle.rom_tree.specs.declared.types.Kind.TheVariants.{Directory, Regular, Symlink, Block, Character, Socket, Fifo}
use Rattle.cramfs_format.specs.declared.order.Order.{Order}
use Rattle.cramfs_format.specs.declared.order.Order.TheVariants.{Little, Big}
use Rattle.cramfs_format.specs.Inode.{block_count}
use Rattle.rom_fields.specs.Padding.{pad}
use Rattle.manifest_tree.specs.Names.{Fill, no_bytes, text, source, Inode, Names, nothing, leaf, link, subdirectory}
use Rattle.formats.specs.Format.{cramfs}
use Rattle.cramfs_format.specs.Order.{packed}
use Rattle.cramfs_layout.specs.Layout.{type_bits, pad4, size_by, entry_len, list_len, State, Table, Kept, nowhere}
use Rattle.cramfs_layout.specs.Layout.{shared, fresh, kept, data_of, with_table, table_by, after_by, after_file}
use Rattle.cramfs_layout.specs.Layout.{after_list, after_names, list_offset}
use Rattle.cramfs_layout.specs.Items.{item_of, start_by}
use Rattle.cramfs_layout.specs.Wells.{FitsKind, IsFile, AreWell}
use Rattle.cramfs_layout.proofs.Stored.{data_after, shared_by, stored_with, names_onward}
use Rattle.plan_rows.specs.Rows.{rows}
use Rattle.plan_rows.specs.Fits.{IsFit}
use Rattle.cramfs_plan.specs.Passes.{in_preorder}
use Rattle.cramfs_plan.specs.Small.{IsSmall}

first_small : (o : Order) (a b : ℕ) → a < 2 ^ 16 → b < 2 ^ 16 → packed o 16 a b < 2 ^ 32
first_small Little a b h k = omega arith
first_small Big a b h k = omega arith

second_small : (o : Order) (a b : ℕ) → a < 2 ^ 24 → b < 2 ^ 8 → packed o 24 a b < 2 ^ 32
second_small Little a b h k = omega arith
second_small Big a b h k = omega arith

third_small : (o : Order) (a b : ℕ) → a < 2 ^ 6 → b < 2 ^ 26 → packed o 6 a b < 2 ^ 32
third_small Little a b h k = omega arith
third_small Big a b h k = omega arith

type_small : (k : Kind) → type_bits k < 16
type_small Directory = omega arith
type_small Regular = omega arith
type_small Symlink = omega arith
type_small Block = omega arith
type_small Character = omega arith
type_small Socket = omega arith
type_small Fifo = omega arith

size_small : (k : Kind) (i : Inode) → FitsKind k i → i.size < 2 ^ 24 → size_by k i < 2 ^ 24
size_small Directory i h l = l
size_small Regular i h l = l
size_small Symlink i h l = l
size_small Block i h l = let a = h.0 in let c = h.1 in omega arith
size_small Character i h l = let a = h.0 in let c = h.1 in omega arith
size_small Socket i h l = l
size_small Fifo i h l = l

-- an item of small parts
pub item_small : (o : Order) (place : ℕ) (name : List ℕ) (i : Inode) (size offset table start len : ℕ) (f : Fill)
    → place < 2 ^ 32 → length name ≤ 252 → i.mode < 4096 → i.uid < 2 ^ 16 → i.gid < 2 ^ 8 → size < 2 ^ 24
    → offset < 2 ^ 28 → table < 2 ^ 32 → start < 2 ^ 32 → len < 2 ^ 32
    → IsSmall (item_of o place name i size offset table start len f)
item_small o place name i size offset table start len f p n m u g z q t s l =
    let k = type_small i.kind in
    record {
      place = p;
      first = first_small o (type_bits i.kind * 4096 + i.mode) i.uid (omega (arith, k, m)) u;
      second = second_small o size i.gid z g;
      third = third_small o (pad4 (length name) / 4) (offset / 4) (omega (arith, n)) (omega (arith, q));
      table = t;
      start = s;
      len = l;
    }

-- the tables so far are in front of the end
abbrev pub AreLow : List Table → Type 0
AreLow ts = Every (λ (t : Table). t.place < 2 ^ 28) ts

pad_near : (n k : ℕ) → 0 < k → pad n k < n + k
pad_near n k h = omega (arith, h, div-add-mod' (n + (k - 1)) k)

-- data are near the table
data_near : (from : ℕ) (i : Inode) → from ≤ 2 ^ 28 → i.size < 2 ^ 24 → 0 < i.align → i.align ≤ 65536
    → data_of from i < 2 ^ 32
unfolding data_of
data_near from i h z p a = let n = pad_near (pad4 from + 4 * block_count i.size) i.align p in omega (arith, n, h, z, a)

-- a file and what comes after it, kept so
record IsKept (s : State) (i : Inode) (k : Kept) : Type 0 where
  table : table_by k s.at < 2 ^ 28
  start : start_by k s.at i < 2 ^ 32
  tables : AreLow (after_by k s i).tables

more_low : (f : Fill) (place : ℕ) (ts : List Table) → place < 2 ^ 28 → AreLow ts → AreLow (with_table f place ts)
more_low no_bytes place ts h t = t
more_low (text x) place ts h t = t
more_low (source k) place ts h t = (h, t)

file_kept : (cs : List (List ℕ)) (s : State) (i : Inode) (k : Kept) → IsFile cs i → 0 < i.align → i.align ≤ 65536
    → kept s.tables i ≡ k → AreLow s.tables → (after_by k s i).at ≤ 2 ^ 28 → IsKept s i k
unfolding kept
file_kept cs s i nowhere h p a e t l = record { table = omega arith; start = omega arith; tables = t }
file_kept cs s i (shared x) h p a e t l = elim (eqb_tells i.size 0) [
  | inl y ↦ let z : nowhere ≡ shared x = (rw y.0 at e) in absurd (cc)
  | inr y ↦
      let r = shared_by s.tables i.fill x (rw y.0 at e) in
      let low = stored_with (λ (z : Table). z.place < 2 ^ 28) s.tables r.0 x t r.2 in
      record { table = low; start = data_near x i (omega (arith, low)) h.small p a; tables = t }
]
file_kept cs s i fresh h p a e t l = elim (eqb_tells i.size 0) [
  | inl y ↦ let z : nowhere ≡ fresh = (rw y.0 at e) in absurd (cc)
  | inr y ↦
      let n = y.1 in
      let d = (data_after cs s.at i h).0 in
      let low : pad4 s.at < 2 ^ 28 = omega (arith, n, d, l) in
      record { table = low; start = omega (arith, l); tables = more_low i.fill (pad4 s.at) s.tables low t }
]

list_low : (from high : ℕ) (own : Names) → pad4 from + list_len own ≤ high → high ≤ 2 ^ 28
    → list_offset from own < 2 ^ 28
list_low from high nothing h l = omega arith
list_low from high (leaf name i after) h l = omega arith
list_low from high (link name i after) h l = omega arith
list_low from high (subdirectory name i own after) h l = omega arith

pub record AreSmall (o : Order) (l : ℕ) (s : State) (n : Names) : Type 0 where
  pub items : Every IsSmall (in_preorder o l s n)
  pub tables : AreLow (after_names s n).tables

pub are_small : (o : Order) (cs : List (List ℕ)) (d l : ℕ) (s : State) (n : Names) → AreWell cs n
    → Every (IsFit (cramfs o)) (rows d n) → AreLow s.tables → l + list_len n ≤ 2 ^ 28
    → (after_names s n).at ≤ 2 ^ 28 → AreSmall o l s n
are_small o cs d l s nothing h fit t low room = record { items = tt; tables = t }
are_small o cs d l s (leaf name i rest) h fit t low room =
    let b = names_onward cs (after_file s i) rest h.2 in
    let f = h.1 in
    let short = h.0.1 in
    let a = fit.0.fits.2 in
    let k = file_kept cs s i (kept s.tables i) f fit.0.fits.1 a refl t (omega (arith, b, room)) in
    let more =
    are_small o cs d (l + entry_len name) (after_file s i) rest h.2 fit.1 k.tables (omega (arith, low)) room in
    let z = f.small in
    record {
      items = (
        item_small o l name i (size_by i.kind i) (table_by (kept s.tables i) s.at) (table_by (kept s.tables i) s.at)
            (start_by (kept s.tables i) s.at i) i.size i.fill
            (omega (arith, low)) short f.mode f.owner.0 f.owner.1 (size_small i.kind i f.kind z) k.table
            (let q = k.table in omega (arith, q)) k.start (omega (arith, z)),
        more.items,
      );
      tables = more.tables;
    }
are_small o cs d l s (link name i rest) h fit t low room = absurd h
are_small o cs d l s (subdirectory name i own rest) h fit t low room =
    let s1 = after_list s own in
    let s2 = after_names s1 own in
    let b = names_onward cs s1 own h.2 in
    let c = names_onward cs s2 rest h.3 in
    let f = h.1 in
    let fits = every_left (IsFit (cramfs o)) (rows (d + 1) own) (rows d rest) fit.1 in
    let others = every_right (IsFit (cramfs o)) (rows (d + 1) own) (rows d rest) fit.1 in
    let inner =
    are_small o cs (d + 1) (pad4 s.at) s1 own h.2 fits t (omega (arith, b, c, room)) (omega (arith, c, room)) in
    let more = are_small o cs d (l + entry_len name) s2 rest h.3 others inner.tables (omega (arith, low)) room in
    record {
      items = (
        item_small o l name i (list_len own) (list_offset s.at own) 0 0 0 no_bytes
            (omega (arith, low)) h.0.1 f.mode f.owner.0 f.owner.1
            f.small (list_low s.at (2 ^ 28) own (omega (arith, b, c, room)) (omega arith)) (omega arith) (omega arith)
            (omega arith),
        every_join IsSmall (in_preorder o (pad4 s.at) s1 own)
            (in_preorder o (l + entry_len name) s2 rest) inner.items more.items,
      );
      tables = more.tables;
    }
