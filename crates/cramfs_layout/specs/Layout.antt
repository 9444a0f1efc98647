-- `layout`: the bytes of a cramfs image in a byte order, from the root's attributes, its names and
-- the contents of the sources. `State`, `parts`: the offsets of lists, tables and blocks, and their
-- bytes. (Linux include/uapi/linux/cramfs_fs.h and Documentation/filesystems/cramfs.rst. The order,
-- and that each offset is the least possible, are this project's own.)
--
-- The root's list comes first. Then comes, for each of its entries in the order of names, what the
-- entry has. A directory has its list, and then in the same way what the entries of the list have.
-- A file or a link has its table of block pointers, and its blocks without gaps. Files with the
-- contents of one source share one table and one run of blocks, at the offsets of the first of
-- these files. An empty file or directory has offset 0.
use Rattle.std.specs.Prelude.{ℕ, zero, suc, ◌+◌, ◌-◌, ◌*◌, ◌/◌, ◌^◌, if◌then◌else◌, ◌==◌, List, []}
use Rattle.std.specs.Prelude.{◌∷◌, ◌++◌, length, replicate, take, drop, Option, Some, None}
use Rattle.byteorder.specs.Endian.{big_bytes, little_bytes}
use Rattle.rom_tree.specs.declared.types.Kind.{Kind}
use Rattle.rom_tree.specs.declared.types.Kind.TheVariants.{Directory, Regular, Symlink, Block}
use Rattle.rom_tree.specs.declared.types.Kind.TheVariants.{Character, Socket, Fifo}
use Rattle.cramfs_format.specs.Order.{packed}
use Rattle.cramfs_format.specs.declared.order.Order.{Order}
use Rattle.cramfs_format.specs.declared.order.Order.TheVariants.{Little, Big}
use Rattle.cramfs_format.specs.Inode.{block_count}
use Rattle.cramfs_format.specs.Superblock.{magic, signature}
use Rattle.crc.specs.Crc.{crc_of}
use Rattle.rom_fields.specs.Parts.{Part, laid}
use Rattle.manifest_tree.specs.Names.{Fill, no_bytes, text, source, Inode, Names, nothing, leaf}
use Rattle.manifest_tree.specs.Names.{link, subdirectory, bytes_of}
use Rattle.rom_fields.specs.Parts.{part}
use Rattle.rom_fields.specs.Padding.{pad}

-- a word in a byte order
abbrev pub word_bytes : Order → ℕ → List ℕ
word_bytes Little w = little_bytes 4 w
word_bytes Big w = big_bytes 4 w

-- the least multiple of 4 that is at least n
abbrev pub pad4 : ℕ → ℕ
pad4 n = (n + 3) / 4 * 4

-- the file types, which are the upper four of the sixteen bits of the mode
abbrev pub type_bits : Kind → ℕ
type_bits Directory = 4
type_bits Regular = 8
type_bits Symlink = 10
type_bits Block = 6
type_bits Character = 2
type_bits Socket = 12
type_bits Fifo = 1

-- the size field: for a device, its numbers
abbrev pub size_by : Kind → Inode → ℕ
size_by Block i = i.major * 256 + i.minor
size_by Character i = i.major * 256 + i.minor
size_by _ i = i.size

-- the three words of an inode: mode and uid; size and gid; namelen and offset, both in units of 4
-- bytes
abbrev pub first_word : Order → Inode → ℕ
first_word o i = packed o 16 (type_bits i.kind * 4096 + i.mode) i.uid

abbrev pub second_word : Order → Inode → ℕ → ℕ
second_word o i size = packed o 24 size i.gid

abbrev pub third_word : Order → List ℕ → ℕ → ℕ
third_word o name offset = packed o 6 (pad4 (length name) / 4) (offset / 4)

-- an inode with its name, and with this size and offset
unfoldable pub entry_bytes : Order → List ℕ → Inode → ℕ → ℕ → List ℕ
entry_bytes o name i size offset =
    word_bytes o (first_word o i)
    ++ (word_bytes o (second_word o i size) ++ (word_bytes o (third_word o name offset)
    ++ (name ++ replicate (pad4 (length name) - length name) 0)))

-- the length of an inode with its name
abbrev pub entry_len : List ℕ → ℕ
entry_len name = 12 + pad4 (length name)

-- the length of a directory's list
abbrev pub list_len : Names → ℕ
list_len nothing = 0
list_len (leaf name i after) = entry_len name + list_len after
list_len (link name i after) = entry_len name + list_len after
list_len (subdirectory name i own after) = entry_len name + list_len after

-- a source and the offset of its table
pub record Table : Type 0 where
  pub source : ℕ
  pub place : ℕ

-- what was placed so far: its end, and the tables of the sources
pub record State : Type 0 where
  pub at : ℕ
  pub tables : List Table

abbrev pub table_with : List Table → ℕ → Option ℕ
table_with [] k = None
table_with (t ∷ ts) k = if t.source == k then Some t.place else table_with ts k

-- how a file's bytes are kept: not at all, behind a table that exists already, or behind a table of
-- its own
pub data Kept : Type 0 where
  nowhere : Kept
  shared : ℕ → Kept
  fresh : Kept

abbrev pub kept_with : Option ℕ → Kept
kept_with None = fresh
kept_with (Some t) = shared t

abbrev pub kept_by : List Table → Fill → Kept
kept_by ts no_bytes = nowhere
kept_by ts (text t) = fresh
kept_by ts (source k) = kept_with (table_with ts k)

unfoldable pub kept : List Table → Inode → Kept
kept ts i = if i.size == 0 then nowhere else kept_by ts i.fill

-- the offset of the bytes behind a table of its own
unfoldable pub data_of : ℕ → Inode → ℕ
data_of from i = pad (pad4 from + 4 * block_count i.size) i.align

-- one more table, if it is that of a source
abbrev pub with_table : Fill → ℕ → List Table → List Table
with_table no_bytes place ts = ts
with_table (text t) place ts = ts
with_table (source k) place ts = record { source = k; place = place } ∷ ts

-- the offset field of a file: the offset of its table, or 0 if it has none
abbrev pub table_by : Kept → ℕ → ℕ
table_by nowhere from = 0
table_by (shared t) from = t
table_by fresh from = pad4 from

-- the state after a file whose bytes are kept so
abbrev pub after_by : Kept → State → Inode → State
after_by nowhere s i = s
after_by (shared t) s i = s
after_by fresh s i =
    record { at = data_of s.at i + i.size; tables = with_table i.fill (pad4 s.at) s.tables }

-- the state after a file
abbrev pub after_file : State → Inode → State
after_file s i = after_by (kept s.tables i) s i

-- the state after the list of a directory
abbrev pub after_list : State → Names → State
after_list s own = record { at = pad4 s.at + list_len own; tables = s.tables }

-- the state after all that these names place
abbrev pub after_names : State → Names → State
after_names s nothing = s
after_names s (leaf name i rest) = after_names (after_file s i) rest
after_names s (link name i rest) = after_names (after_file s i) rest
after_names s (subdirectory name i own rest) = after_names (after_names (after_list s own) own) rest

-- the offset field of a directory: the offset of its list, or 0 if it is empty
abbrev pub list_offset : ℕ → Names → ℕ
list_offset from nothing = 0
list_offset from (leaf name i after) = pad4 from
list_offset from (link name i after) = pad4 from
list_offset from (subdirectory name i own after) = pad4 from

-- the bytes of a list; what its entries have is placed after s
abbrev pub list_bytes : Order → State → Names → List ℕ
list_bytes o s nothing = []
list_bytes o s (leaf name i rest) =
    entry_bytes o name i (size_by i.kind i) (table_by (kept s.tables i) s.at)
    ++ list_bytes o (after_file s i) rest
list_bytes o s (link name i rest) =
    entry_bytes o name i (size_by i.kind i) (table_by (kept s.tables i) s.at)
    ++ list_bytes o (after_file s i) rest
list_bytes o s (subdirectory name i own rest) =
    entry_bytes o name i (list_len own) (list_offset s.at own)
    ++ list_bytes o (after_names (after_list s own) own) rest

-- n pointers to blocks without gaps, uncompressed and direct
abbrev pub pointers : Order → ℕ → ℕ → List ℕ
pointers o place zero = []
pointers o place (suc n) = word_bytes o (3 * 2 ^ 30 + place / 4) ++ pointers o (place + 4096) n

-- the table and the blocks of a file, if they are its own
abbrev pub file_parts : Order → List (List ℕ) → Kept → State → Inode → List Part
file_parts o contents nowhere s i = []
file_parts o contents (shared t) s i = []
file_parts o contents fresh s i =
    part (pad4 s.at) (pointers o (data_of s.at i) (block_count i.size))
    ∷ part (data_of s.at i) (bytes_of contents i.fill)
    ∷ []

-- the parts that the names place after s
abbrev pub parts : Order → List (List ℕ) → State → Names → List Part
parts o contents s nothing = []
parts o contents s (leaf name i rest) =
    file_parts o contents (kept s.tables i) s i ++ parts o contents (after_file s i) rest
parts o contents s (link name i rest) =
    file_parts o contents (kept s.tables i) s i ++ parts o contents (after_file s i) rest
parts o contents s (subdirectory name i own rest) =
    part (pad4 s.at) (list_bytes o (after_list s own) own)
    ∷ (parts o contents (after_list s own) own
    ++ parts o contents (after_names (after_list s own) own) rest)

-- the number of entries
abbrev pub count : Names → ℕ
count nothing = 0
count (leaf name i after) = suc (count after)
count (link name i after) = suc (count after)
count (subdirectory name i own after) = suc (count own + count after)

-- the number of files: the root and each entry
abbrev pub files_of : Names → ℕ
files_of n = count n + 1

-- the state behind the superblock and the root's list
abbrev pub first_state : Names → State
first_state n = record { at = 76 + list_len n; tables = [] }

-- the size of the image: a multiple of 4096
unfoldable pub size_of : Names → ℕ
size_of n = pad (after_names (first_state n) n).at 4096

-- the offset of the root's inode
abbrev pub root_offset : Names → ℕ
root_offset nothing = 0
root_offset (leaf name i after) = 76
root_offset (link name i after) = 76
root_offset (subdirectory name i own after) = 76

-- 803 (hexadecimal): size and crc are stored, lists are sorted, and pointers have bits for the kind
-- of their blocks
abbrev pub flags : ℕ
flags = 2051

-- The superblock, without its crc: magic, size, flags, future, signature, crc, edition, blocks,
-- files, the volume's name, and the root's inode, which has no name.
unfoldable pub superblock : Order → List ℕ → Inode → Names → List ℕ
superblock o volume root n =
    word_bytes o magic ++ (word_bytes o (size_of n)
    ++ (word_bytes o flags ++ (word_bytes o 0 ++ (signature
    ++ (word_bytes o 0 ++ (word_bytes o 0
    ++ (word_bytes o (size_of n / 4096) ++ (word_bytes o (files_of n)
    ++ (volume ++ (replicate (16 - length volume) 0
    ++ entry_bytes o [] root (list_len n) (root_offset n)))))))))))

-- an image with its crc; the crc's field was zero before
unfoldable pub with_crc : Order → List ℕ → List ℕ
with_crc o b = take 32 b ++ (word_bytes o (crc_of b) ++ drop 36 b)

-- The layout of a volume, from the root's attributes, its names, and the contents of the sources.
unfoldable pub layout : Order → List ℕ → Inode → Names → List (List ℕ) → List ℕ
layout o volume root n contents =
    let s = first_state n in
    with_crc o (laid [] (
    part 0 (superblock o volume root n)
    ∷ part 76 (list_bytes o s n)
    ∷ (parts o contents s n ++ part (size_of n) [] ∷ [])
    ))
