-- The superblock of a layout, and its crc.
use Rattle.std.proofs.Common.{◌≡◌, ℕ, zero, suc, ◌+◌, ◌-◌, ◌*◌, ◌/◌, ◌^◌, List, [], ◌∷◌, ◌++◌, length, take, drop}
use Rattle.std.proofs.Common.{replicate, refl, sym, subst, arith, length-append}
use Rattle.cramfs_format.specs.declared.order.Order.{Order}
use Rattle.cramfs_format.specs.declared.order.Order.TheVariants.{Little, Big}
use Rattle.cramfs_format.specs.Inode.{block_count}
use Rattle.cramfs_format.specs.Superblock.{magic, signature, without_crc}
use Rattle.crc.specs.Crc.{crc_of}
use Rattle.rom_fields.specs.Parts.{Part, end_of_part, Rises, end_of_parts}
use Rattle.manifest_tree.specs.Names.{Inode, Names, nothing, leaf, link, subdirectory}
use Rattle.rom_fields.specs.Parts.{part}
use Rattle.cramfs_layout.specs.Layout.{word_bytes, pad4, entry_bytes, list_len, list_bytes, size_by, table_by}
use Rattle.cramfs_layout.specs.Layout.{root_offset, files_of, State, Kept, nowhere, shared, fresh, kept, data_of}
use Rattle.cramfs_layout.specs.Layout.{after_by, after_file, after_list, after_names, list_offset, pointers, file_parts}
use Rattle.cramfs_layout.specs.Layout.{parts, flags, size_of, superblock, with_crc}
use Rattle.cramfs_layout.specs.Wells.{IsFile, AreWell}
use Rattle.cramfs_layout.proofs.Entries.{length-entry, length-word}
use Rattle.cramfs_layout.proofs.Stored.{data_after}

-- what is before the crc, and behind it
abbrev pub front : Order → ℕ → List ℕ → List ℕ
front o size back =
    word_bytes o magic ++ (word_bytes o size ++ (word_bytes o flags ++ (word_bytes o 0 ++ (signature ++ back))))

abbrev pub behind : Order → List ℕ → Inode → Names → List ℕ → List ℕ
behind o volume root n more =
    word_bytes o 0 ++ (word_bytes o (size_of n / 4096)
    ++ (word_bytes o (files_of n) ++
    ((volume ++ (replicate (16 - length volume) 0 ++ entry_bytes o [] root (list_len n) (root_offset n))) ++ more)))

pub before_crc : (o : Order) (volume : List ℕ) (root : Inode) (n : Names) (more : List ℕ)
    → superblock o volume root n ++ more ≡ front o (size_of n) (word_bytes o 0 ++ behind o volume root n more)
unfolding superblock
before_crc Little volume root n more = refl
before_crc Big volume root n more = refl

pub after_crc : (o : Order) (size : ℕ) (back : List ℕ)
    → with_crc o (front o size (word_bytes o 0 ++ back))
    ≡ front o size (word_bytes o (crc_of (front o size (word_bytes o 0 ++ back))) ++ back)
unfolding with_crc
after_crc Little size back = refl
after_crc Big size back = refl

pub no_crc : (o : Order) (size w : ℕ) (back : List ℕ)
    → without_crc (front o size (word_bytes o w ++ back)) ≡ front o size (word_bytes o 0 ++ back)
no_crc Little size w back = refl
no_crc Big size w back = refl

pub signed : (o : Order) (size : ℕ) (back : List ℕ) → take 16 (drop 16 (front o size back)) ≡ signature
signed Little size back = refl
signed Big size back = refl

-- what is behind the crc's field stays
pub drop_crc : (o : Order) (size w : ℕ) (back : List ℕ) → drop 36 (front o size (word_bytes o w ++ back)) ≡ back
drop_crc Little size w back = refl
drop_crc Big size w back = refl

pub length-pointers : (o : Order) (p n : ℕ) → length (pointers o p n) ≡ 4 * n
length-pointers o p zero = refl
length-pointers o p (suc n) =
    let w = word_bytes o (3 * 2 ^ 30 + p / 4) in
    omega (
      arith,
      length-append w (pointers o (p + 4096) n),
      length-word o (3 * 2 ^ 30 + p / 4),
      length-pointers o (p + 4096) n,
    )

pub length-list : (o : Order) (s : State) (n : Names) → length (list_bytes o s n) ≡ list_len n
length-list o s nothing = refl
length-list o s (leaf name i rest) =
    let e = entry_bytes o name i (size_by i.kind i) (table_by (kept s.tables i) s.at) in
    omega (
      arith,
      length-append e (list_bytes o (after_file s i) rest),
      length-entry o name i (size_by i.kind i) (table_by (kept s.tables i) s.at),
      length-list o (after_file s i) rest,
    )
length-list o s (link name i rest) =
    let e = entry_bytes o name i (size_by i.kind i) (table_by (kept s.tables i) s.at) in
    omega (
      arith,
      length-append e (list_bytes o (after_file s i) rest),
      length-entry o name i (size_by i.kind i) (table_by (kept s.tables i) s.at),
      length-list o (after_file s i) rest,
    )
length-list o s (subdirectory name i own rest) =
    let e = entry_bytes o name i (list_len own) (list_offset s.at own) in
    let s' = after_names (after_list s own) own in
    omega (
      arith,
      length-append e (list_bytes o s' rest),
      length-entry o name i (list_len own) (list_offset s.at own),
      length-list o s' rest,
    )

-- parts that are one after the other, up to an offset
pub record AreParts (from to : ℕ) (ps : List Part) : Type 0 where
  pub rises : Rises from ps
  pub ends_at : end_of_parts from ps ≡ to

parts_join : (from mid to : ℕ) (ps qs : List Part) → AreParts from mid ps → AreParts mid to qs
    → AreParts from to (ps ++ qs)
parts_join from mid to [] qs a c = subst (λ (v : ℕ). AreParts v to qs) (sym a.ends_at) c
parts_join from mid to (p ∷ ps) qs a c =
    let r = parts_join (end_of_part p) mid to ps qs (record { rises = a.rises.1; ends_at = a.ends_at }) c in
    record { rises = (a.rises.0, r.rises); ends_at = r.ends_at }

file_parts_are : (o : Order) (cs : List (List ℕ)) (s : State) (i : Inode) (k : Kept) → IsFile cs i
    → AreParts s.at (after_by k s i).at (file_parts o cs k s i)
file_parts_are o cs s i nowhere h = record { rises = tt; ends_at = refl }
file_parts_are o cs s i (shared t) h = record { rises = tt; ends_at = refl }
file_parts_are o cs s i fresh h =
    let d = (data_after cs s.at i h).0 in
    let l = length-pointers o (data_of s.at i) (block_count i.size) in
    let c = h.bytes in
    record { rises = (omega arith, (omega (arith, d, l), tt)); ends_at = omega (arith, c) }

pub parts_are : (o : Order) (cs : List (List ℕ)) (s : State) (n : Names) → AreWell cs n
    → AreParts s.at (after_names s n).at (parts o cs s n)
parts_are o cs s nothing h = record { rises = tt; ends_at = refl }
parts_are o cs s (leaf name i rest) h =
    let s' = after_file s i in
    parts_join s.at s'.at (after_names s' rest).at (file_parts o cs (kept s.tables i) s i) (parts o cs s' rest)
    (file_parts_are o cs s i (kept s.tables i) h.1) (parts_are o cs s' rest h.2)
parts_are o cs s (link name i rest) h = absurd h
parts_are o cs s (subdirectory name i own rest) h =
    let s1 = after_list s own in
    let s' = after_names s1 own in
    let t = (after_names s' rest).at in
    let l = length-list o s1 own in
    let one : AreParts s.at s1.at (part (pad4 s.at) (list_bytes o s1 own) ∷ []) =
    record { rises = (omega arith, tt); ends_at = omega (arith, l) } in
    parts_join s.at s1.at t (part (pad4 s.at) (list_bytes o s1 own) ∷ []) (parts o cs s1 own ++ parts o cs s' rest) one
    (parts_join s1.at s'.at t (parts o cs s1 own) (parts o cs s' rest) (parts_are o cs s1 own h.2)
    (parts_are o cs s' rest h.3))
