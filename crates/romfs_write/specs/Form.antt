-- `form_of`: the plan of a romfs image as a superblock and segments, before the contents of its
-- files are known. (This project's own; the bytes are those of the layout.)
use Rattle.std.specs.Prelude.{ℕ, ◌+◌, ◌-◌, List, [], ◌++◌, map, length, drop}
use Rattle.byteorder.specs.Endian.{big_bytes}
use Rattle.image_stream.specs.Segments.{Segment, fixed, content, Form}
use Rattle.manifest_layout.specs.Plans.{Planned}
use Rattle.manifest_tree.specs.Bodies.{item_at}
use Rattle.manifest_tree.specs.Items.{Item, Section, Body, super, record_of, table_of, text_of}
use Rattle.manifest_tree.specs.Items.{contents_of}
use Rattle.manifest_tree.specs.Names.{bytes_of}
use Rattle.romfs_format.specs.Record.{pad16}
use Rattle.romfs_format.specs.Tree.{magic}
use Rattle.romfs_layout.specs.Composed.{written}
use Rattle.romfs_layout.specs.Layout.{padded_name, record_len, root_at}

-- the superblock with this word as its sum
abbrev pub superblock_storing : ℕ → ℕ → List ℕ → List ℕ
superblock_storing sum size volume =
    magic ++ (big_bytes 4 size ++ (big_bytes 4 sum ++ padded_name volume))

-- the end of an item's bytes
abbrev pub item_end : Item → ℕ
item_end i = i.place + record_len i.name + i.len

-- the size that the superblock stores: the end of the last item's bytes, rounded up to a multiple
-- of 16
abbrev pub full_size : List Item → ℕ
full_size is = pad16 (item_end (item_at is (length is - 1)))

-- a section behind the superblock as a segment: a header, a text, or the contents of a file
abbrev pub segment_by : List Item → ℕ → ℕ → Body → Segment
segment_by is place len super = fixed place []
segment_by is place len (record_of index) = fixed place (written (item_at is index))
segment_by is place len (table_of index) = fixed place []
segment_by is place len (text_of index) = fixed place (bytes_of [] (item_at is index).fill)
segment_by is place len (contents_of file) = content place len file

abbrev pub segment_of : List Item → Section → Segment
segment_of is s = segment_by is s.place s.len s.body

-- the image of a plan, before the contents of its files are known
abbrev pub form_of : Planned → Form
form_of p = record {
  head = λ sum. superblock_storing sum (full_size p.items) p.volume;
  start = root_at p.volume;
  segments = map (segment_of p.items) (drop 1 p.sections);
  end = p.image_len;
  sizes = p.sizes;
}
