-- `form_of`: the plan of a cramfs image, in either byte order, as a superblock and segments, before
-- the contents of its files are known. (This project's own; the bytes are those of the layout.)
use Rattle.std.specs.Prelude.{ℕ, ◌-◌, ◌/◌, List, [], ◌++◌, map, length, drop, replicate}
use Rattle.cramfs_format.specs.declared.order.Order.{Order}
use Rattle.cramfs_format.specs.Superblock.{magic, signature}
use Rattle.cramfs_layout.specs.Composed.{written, table}
use Rattle.cramfs_layout.specs.Layout.{word_bytes, pad4, flags}
use Rattle.image_stream.specs.Segments.{Segment, fixed, content, Form}
use Rattle.manifest_layout.specs.Plans.{Planned}
use Rattle.manifest_tree.specs.Bodies.{item_at}
use Rattle.manifest_tree.specs.Items.{Item, Section, Body, super, record_of, table_of, text_of}
use Rattle.manifest_tree.specs.Items.{contents_of}
use Rattle.manifest_tree.specs.Names.{bytes_of}

-- the three words of an inode
abbrev pub words_bytes : Order → ℕ → ℕ → ℕ → List ℕ
words_bytes o first second third = word_bytes o first ++ (word_bytes o second ++ word_bytes o third)

-- an inode with its name
abbrev pub inode_bytes : Order → ℕ → ℕ → ℕ → List ℕ → List ℕ
inode_bytes o first second third name =
    word_bytes o first ++ (word_bytes o second ++ (word_bytes o third
    ++ (name ++ replicate (pad4 (length name) - length name) 0)))

-- the superblock up to the number of blocks, with this word as its crc
abbrev pub front_storing : Order → ℕ → ℕ → List ℕ
front_storing o crc size =
    word_bytes o magic ++ (word_bytes o size ++ (word_bytes o flags ++ (word_bytes o 0 ++ (signature
    ++ (word_bytes o crc ++ word_bytes o 0)))))

-- the superblock, with the words of the root's inode
abbrev pub superblock_storing : Order → ℕ → ℕ → ℕ → List ℕ → ℕ → ℕ → ℕ → List ℕ
superblock_storing o crc size files volume first second third =
    front_storing o crc size ++ (word_bytes o (size / 4096) ++ (word_bytes o files
    ++ (volume ++ (replicate (16 - length volume) 0 ++ words_bytes o first second third))))

-- a section behind the superblock as a segment: an inode, a table, a text, or the contents of a
-- file
abbrev pub segment_by : Order → List Item → ℕ → ℕ → Body → Segment
segment_by o is place len super = fixed place []
segment_by o is place len (record_of index) = fixed place (written o (item_at is index))
segment_by o is place len (table_of index) = fixed place (table o (item_at is index))
segment_by o is place len (text_of index) = fixed place (bytes_of [] (item_at is index).fill)
segment_by o is place len (contents_of file) = content place len file

abbrev pub segment_of : Order → List Item → Section → Segment
segment_of o is s = segment_by o is s.place s.len s.body

-- the image of a plan, before the contents of its files are known
abbrev pub form_of : Order → Planned → Form
form_of o p = record {
  head = λ crc.
      let root = item_at p.items 0 in
      superblock_storing o crc p.image_len
      (length p.items) p.volume root.first root.second root.third;
  start = 76;
  segments = map (segment_of o p.items) (drop 1 p.sections);
  end = p.image_len;
  sizes = p.sizes;
}
