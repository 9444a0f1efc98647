-- The records of items are at their offsets.
use Rattle.std.proofs.Common.{ℕ, ◌+◌, List, ◌++◌, length, ap}
use Rattle.std.specs.List.{AllByRecursion as Every}
use Rattle.record_forest.proofs.Lists.{every_join}
use Rattle.cramfs_format.specs.declared.order.Order.{Order}
use Rattle.rom_fields.specs.Parts.{HasAt, HasParts}
use Rattle.rom_fields.proofs.Parts.{HasAt-before, HasAt-after, HasAt-moved}
use Rattle.manifest_tree.specs.Names.{Inode, Names, nothing, leaf, link, subdirectory}
use Rattle.manifest_tree.specs.Items.{Item}
use Rattle.cramfs_layout.specs.Layout.{size_by, entry_len, entry_bytes, list_bytes, list_len, list_offset, State, kept}
use Rattle.cramfs_layout.specs.Layout.{table_by, pad4, file_parts, parts, after_file, after_list, after_names}
use Rattle.cramfs_layout.specs.Items.{entries, below}
use Rattle.cramfs_layout.specs.Composed.{written}
use Rattle.cramfs_layout.proofs.Stored.{parts_both}
use Rattle.cramfs_layout.proofs.Entries.{length-entry}

-- the record of an item is at its offset
abbrev pub Stands : Order → List ℕ → Item → Type 0
Stands o b i = HasAt b i.place (written o i)

-- what is behind the first record of a list
list_later : (o : Order) (b : List ℕ) (l : ℕ) (name : List ℕ) (i : Inode) (size offset : ℕ) (rest : List ℕ)
    → HasAt b l (entry_bytes o name i size offset ++ rest) → HasAt b (l + entry_len name) rest
list_later o b l name i size offset rest h =
    let entry = entry_bytes o name i size offset in
    HasAt-moved b (l + length entry) (l + entry_len name) rest
    (ap (λ (k : ℕ). l + k) (length-entry o name i size offset)) (HasAt-after b l entry rest h)

pub entries_stand : (o : Order) (b : List ℕ) (l : ℕ) (s : State) (n : Names) → HasAt b l (list_bytes o s n)
    → Every (Stands o b) (entries o l s n)
unfolding entry_bytes
entries_stand o b l s nothing h = tt
entries_stand o b l s (leaf name i rest) h =
    let size = size_by i.kind i in
    let offset = table_by (kept s.tables i) s.at in
    let s' = after_file s i in (
      HasAt-before b l (entry_bytes o name i size offset) (list_bytes o s' rest) h,
      entries_stand o b (l + entry_len name) s' rest (list_later o b l name i size offset (list_bytes o s' rest) h),
    )
entries_stand o b l s (link name i rest) h =
    let size = size_by i.kind i in
    let offset = table_by (kept s.tables i) s.at in
    let s' = after_file s i in (
      HasAt-before b l (entry_bytes o name i size offset) (list_bytes o s' rest) h,
      entries_stand o b (l + entry_len name) s' rest (list_later o b l name i size offset (list_bytes o s' rest) h),
    )
entries_stand o b l s (subdirectory name i own rest) h =
    let size = list_len own in
    let offset = list_offset s.at own in
    let s' = after_names (after_list s own) own in (
      HasAt-before b l (entry_bytes o name i size offset) (list_bytes o s' rest) h,
      entries_stand o b (l + entry_len name) s' rest (list_later o b l name i size offset (list_bytes o s' rest) h),
    )

pub below_stand : (o : Order) (b : List ℕ) (cs : List (List ℕ)) (s : State) (n : Names) → HasParts b (parts o cs s n)
    → Every (Stands o b) (below o s n)
below_stand o b cs s nothing h = tt
below_stand o b cs s (leaf name i rest) h =
    below_stand o b cs (after_file s i) rest
    (parts_both b (file_parts o cs (kept s.tables i) s i) (parts o cs (after_file s i) rest) h).1
below_stand o b cs s (link name i rest) h =
    below_stand o b cs (after_file s i) rest
    (parts_both b (file_parts o cs (kept s.tables i) s i) (parts o cs (after_file s i) rest) h).1
below_stand o b cs s (subdirectory name i own rest) h =
    let s1 = after_list s own in
    let s2 = after_names s1 own in
    let mine = parts o cs s1 own in
    let more = parts o cs s2 rest in
    every_join (Stands o b) (entries o (pad4 s.at) s1 own) (below o s1 own ++ below o s2 rest)
    (entries_stand o b (pad4 s.at) s1 own h.0)
    (every_join (Stands o b) (below o s1 own) (below o s2 rest)
    (below_stand o b cs s1 own (parts_both b mine more h.1).0)
    (below_stand o b cs s2 rest (parts_both b mine more h.1).1))
