-- What decides how Linux reads a file: `seen_of`, `text_in`, `romfs_place`: a node of an image.
-- `known_by`: the facts that Linux's cramfs keeps of a file. (This project's own.)
use Rattle.std.specs.Prelude.{ℕ, nat_lt, Bool, true, false, if◌then◌else◌, slice_index, List, []}
use Rattle.std.specs.Prelude.{length, Option, Some, None}
use Rattle.rom_tree.specs.declared.types.Kind.{Kind}
use Rattle.rom_tree.specs.declared.types.Kind.TheVariants.{Regular, Symlink, Block, Character}
use Rattle.rom_tree.specs.Tree.{Node, attributes_of, ino_of, is_link, kind_of, places_of}
use Rattle.rom_tree.specs.Image.{contents_of}
use Rattle.linux_misreads.specs.Readers.{romfs_data}
use Rattle.linux_misreads.specs.declared.seen.Known.{Known}
use Rattle.linux_misreads.specs.declared.seen.Place.{Place}
use Rattle.linux_misreads.specs.declared.seen.Seen.{Seen}

abbrev pub is_regular_kind : Kind → Bool
is_regular_kind Regular = true
is_regular_kind _ = false

abbrev pub is_link_kind : Kind → Bool
is_link_kind Symlink = true
is_link_kind _ = false

abbrev pub is_device_kind : Kind → Bool
is_device_kind Block = true
is_device_kind Character = true
is_device_kind _ = false

-- the file of a node, of which Linux makes a device of this number
abbrev pub seen_of : ℕ → Node → Seen
seen_of device x = record {
  kind = kind_of x;
  mode = (attributes_of x).mode;
  uid = (attributes_of x).uid;
  gid = (attributes_of x).gid;
  size = length (places_of x);
  major = (attributes_of x).major;
  minor = (attributes_of x).minor;
  device = device;
}

-- the text of a link of an image of these bytes, and nothing for other nodes
abbrev pub text_in : List ℕ → Node → List ℕ
text_in b x = if is_link x then contents_of b x else []

-- where the bytes of a node of romfs begin, if it has any, and where Linux reads them
abbrev pub romfs_place : List ℕ → Node → Option Place
romfs_place b x = if nat_lt 0 (length (places_of x))
    then Some (record { start = slice_index (places_of x) 0; read = romfs_data b (ino_of x) })
    else None

-- the facts that Linux's cramfs keeps of a file
abbrev pub known_by : Seen → Known
known_by x = record {
  link = is_link_kind x.kind;
  mode = x.mode;
  uid = x.uid;
  gid = x.gid;
  size = x.size;
}
