-- `layout`: the bytes of a romfs image, from the root's attributes, its names and the contents of
-- the sources. `headers`: the words of each header. `placed`: the files, with the offsets of their
-- headers. (Linux Documentation/filesystems/romfs.rst. The order, and that each offset is the least
-- possible, are this project's own.)
--
-- Children are in the order of their names. A header is followed by its file's bytes, or by the
-- list of its directory: the hard links `.` to its header and `..` to that of its parent, and its
-- children. The root heads its own list.
use Rattle.std.specs.Prelude.{ℕ, ◌+◌, ◌-◌, ◌*◌, max, if◌then◌else◌, ◌==◌, List, [], ◌∷◌, ◌++◌}
use Rattle.std.specs.Prelude.{length, replicate}
use Rattle.byteorder.specs.Endian.{big_bytes}
use Rattle.rom_tree.specs.declared.types.Kind.{Kind}
use Rattle.rom_tree.specs.declared.types.Kind.TheVariants.{Directory, Regular, Symlink, Block}
use Rattle.rom_tree.specs.declared.types.Kind.TheVariants.{Character, Socket, Fifo}
use Rattle.romfs_format.specs.Record.{pad16}
use Rattle.rom_tree.specs.Dots.{dot, dot_dot}
use Rattle.romfs_format.specs.Tree.{magic}
use Rattle.rom_fields.specs.Padding.{pad}
use Rattle.rom_fields.specs.Parts.{Part, part, laid}
use Rattle.rom_fields.specs.Sums.{balanced, sealed}
use Rattle.manifest_tree.specs.Names.{Fill, no_bytes, Inode, Names, nothing, leaf, link}
use Rattle.manifest_tree.specs.Names.{subdirectory}
use Rattle.manifest_tree.specs.Names.{bytes_of}
use Rattle.manifest_tree.specs.Files.{Placed, at_place}

-- One header: its offset; its words next (with the mode), spec and size; its name; and its data:
-- their offset, or 0 if there are none, and which they are.
pub record Header : Type 0 where
  pub place : ℕ
  pub next : ℕ
  pub spec : ℕ
  pub size : ℕ
  pub name : List ℕ
  pub start : ℕ
  pub fill : Fill

-- the length of a header with its name
abbrev pub record_len : List ℕ → ℕ
record_len name = 16 + pad16 (length name + 1)

-- the types of headers
abbrev pub number_of : Kind → ℕ
number_of Directory = 1
number_of Regular = 2
number_of Symlink = 3
number_of Block = 4
number_of Character = 5
number_of Socket = 6
number_of Fifo = 7

-- 0755, the mode of an executable file
abbrev pub runnable : ℕ
runnable = 493

-- the bit "executable", which only a directory or a regular file has
abbrev pub mode_bit : Kind → ℕ → ℕ
mode_bit Directory mode = if mode == runnable then 8 else 0
mode_bit Regular mode = if mode == runnable then 8 else 0
mode_bit Symlink mode = 0
mode_bit Block mode = 0
mode_bit Character mode = 0
mode_bit Socket mode = 0
mode_bit Fifo mode = 0

-- the low four bits of next
unfoldable pub code_of : Inode → ℕ
code_of i = number_of i.kind + mode_bit i.kind i.mode

-- the numbers of a device, 0 for other files
unfoldable pub device_of : Inode → ℕ
device_of i = i.major * 65536 + i.minor

-- the alignment of a file's data
unfoldable pub data_align : Inode → ℕ
data_align i = if i.size == 0 then 16 else max 16 i.align

-- the offset of a file's header, if what was placed before ends at `from`
unfoldable pub place_of : ℕ → List ℕ → Inode → ℕ
place_of from name i = pad (pad16 from + record_len name) (data_align i) - record_len name

-- the offset of a file's data, and their end
abbrev pub data_of : ℕ → List ℕ → Inode → ℕ
data_of from name i = place_of from name i + record_len name

abbrev pub leaf_end : ℕ → List ℕ → Inode → ℕ
leaf_end from name i = data_of from name i + i.size

-- the end of a header of a further name or of a directory
abbrev pub header_end : ℕ → List ℕ → ℕ
header_end from name = pad16 from + record_len name

-- the end of all that is placed from `from` on; a directory's list has `.` and `..` first, 32 bytes
-- each
abbrev pub ends : ℕ → Names → ℕ
ends from nothing = from
ends from (leaf name i after) = ends (leaf_end from name i) after
ends from (link name i after) = ends (header_end from name) after
ends from (subdirectory name i own after) = ends (ends (header_end from name + 64) own) after

-- the offset of the first header from `from` on, or 0 if there is none
abbrev pub first_place : ℕ → Names → ℕ
first_place from nothing = 0
first_place from (leaf name i after) = place_of from name i
first_place from (link name i after) = pad16 from
first_place from (subdirectory name i own after) = pad16 from

-- the files that are placed from `from` on, each with the offset of its header
abbrev pub placed : ℕ → Names → List Placed
placed from nothing = []
placed from (leaf name i after) =
    at_place i (place_of from name i) ∷ placed (leaf_end from name i) after
placed from (link name i after) = placed (header_end from name) after
placed from (subdirectory name i own after) =
    at_place i (pad16 from)
    ∷ placed (header_end from name + 64) own ++ placed (ends (header_end from name + 64) own) after

-- the offset of the header of a line's file
abbrev pub place_with : List Placed → ℕ → ℕ
place_with [] line = 0
place_with (x ∷ xs) line = if x.inode.line == line then x.place else place_with xs line

-- a header without data
abbrev pub header_alone : ℕ → ℕ → ℕ → List ℕ → Header
header_alone place next spec name = record {
  place = place;
  next = next;
  spec = spec;
  size = 0;
  name = name;
  start = 0;
  fill = no_bytes;
}

-- The headers of a list that is placed from `from` on, in the directory at `dir`. `at` is the
-- offset of the header of a line.
abbrev pub headers : (ℕ → ℕ) → ℕ → ℕ → Names → List Header
headers at dir from nothing = []
headers at dir from (leaf name i after) =
    record {
      place = place_of from name i;
      next = first_place (leaf_end from name i) after + code_of i;
      spec = device_of i;
      size = i.size;
      name = name;
      start = if i.size == 0 then 0 else data_of from name i;
      fill = i.fill;
    }
    ∷ headers at dir (leaf_end from name i) after
headers at dir from (link name i after) =
    header_alone (pad16 from) (first_place (header_end from name) after) (at i.line) name
    ∷ headers at dir (header_end from name) after
headers at dir from (subdirectory name i own after) =
    let h = header_end from name in
    let q = ends (h + 64) own in
    header_alone (pad16 from) (first_place q after + code_of i) h name
    ∷ header_alone h (h + 32) (pad16 from) dot
    ∷ header_alone (h + 32) (first_place (h + 64) own) dir dot_dot
    ∷ (headers at (pad16 from) (h + 64) own ++ headers at dir q after)

-- a name that ends with a zero and is padded with zeros
unfoldable pub padded_name : List ℕ → List ℕ
padded_name name = name ++ replicate (pad16 (length name + 1) - length name) 0

-- a header: next, spec, size, the word that brings its sum to 0, and the name
unfoldable pub header_bytes : ℕ → ℕ → ℕ → List ℕ → List ℕ
header_bytes next spec size name =
    balanced (big_bytes 4 next ++ (big_bytes 4 spec ++ big_bytes 4 size)) (padded_name name)

-- each header, and its data right behind it
abbrev pub parts : List (List ℕ) → List Header → List Part
parts contents [] = []
parts contents (i ∷ is) =
    part i.place (header_bytes i.next i.spec i.size i.name)
    ∷ part (i.place + record_len i.name) (bytes_of contents i.fill)
    ∷ parts contents is

-- the offset of the root's header, behind the volume name
abbrev pub root_at : List ℕ → ℕ
root_at volume = 16 + pad16 (length volume + 1)

-- all headers: the root's, which heads its own list, `..`, and those of the root's children
abbrev pub all_headers : ℕ → Inode → Names → List Header
all_headers r root n =
    header_alone r (r + 32 + code_of root) r dot
    ∷ header_alone (r + 32) (first_place (r + 64) n) r dot_dot
    ∷ headers (place_with (placed (r + 64) n)) r (r + 64) n

-- the size that the superblock stores
abbrev pub full_size_of : ℕ → Names → ℕ
full_size_of r n = pad16 (ends (r + 64) n)

-- the magic, the size, a word for the sum, and the volume's name
abbrev pub superblock : ℕ → List ℕ → List ℕ
superblock size volume = magic ++ (big_bytes 4 size ++ (big_bytes 4 0 ++ padded_name volume))

-- The accessible bytes: the superblock and the headers with their data, `size` in all, and in the
-- superblock the word that brings its sum to 0.
unfoldable pub image_of : List ℕ → ℕ → List (List ℕ) → List Header → List ℕ
image_of volume size contents is =
    sealed (laid [] (part 0 (superblock size volume) ∷ (parts contents is ++ part size [] ∷ [])))

-- The layout of a volume, from the root's attributes, its names, and the contents of the sources:
-- the accessible bytes, and zeros up to a multiple of 1,024.
unfoldable pub layout : List ℕ → Inode → Names → List (List ℕ) → List ℕ
layout volume root n contents =
    let r = root_at volume in
    let size = full_size_of r n in
    image_of volume size contents (all_headers r root n) ++ replicate (pad size 1024 - size) 0
