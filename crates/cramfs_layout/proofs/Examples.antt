-- Worked images in both byte orders, by computing.
use Rattle.std.proofs.Common.{◌≡◌, ℕ, List, [], ◌∷◌, ◌++◌, replicate, refl, codes}
use Rattle.byteorder.specs.Endian.{big_bytes, little_bytes}
use Rattle.rom_fields.specs.Parts.{with_part}
use Rattle.rom_tree.specs.declared.types.Kind.{Kind}
use Rattle.rom_tree.specs.declared.types.Kind.TheVariants.{Directory, Regular, Symlink, Character}
use Rattle.cramfs_format.specs.declared.order.Order.TheVariants.{Little, Big}
use Rattle.crc.specs.Crc.{crc_of, after_bit}
use Rattle.manifest_tree.specs.Names.{Fill, no_bytes, text, source, Inode, Names, nothing, leaf, subdirectory}
use Rattle.manifest_tree.specs.Items.{Item, section, super, record_of, table_of, text_of, contents_of}
use Rattle.cramfs_layout.specs.Items.{items_of, sections_of}
use Rattle.cramfs_layout.specs.Layout.{entry_bytes, kept, data_of, superblock, size_of, with_crc, layout}

zeros : ℕ → List ℕ
zeros n = replicate n 0

joined : List (List ℕ) → List ℕ
joined [] = []
joined (x ∷ xs) = x ++ joined xs

-- words, the lowest byte first, and the highest byte first
lows : List ℕ → List ℕ
lows [] = []
lows (w ∷ ws) = little_bytes 4 w ++ lows ws

highs : List ℕ → List ℕ
highs [] = []
highs (w ∷ ws) = big_bytes 4 w ++ highs ws

inode : ℕ → Kind → ℕ → ℕ → ℕ → Fill → Inode
inode line kind mode align size fill =
    record {
      line = line;
      kind = kind;
      mode = mode;
      uid = 0;
      gid = 0;
      major = 0;
      minor = 0;
      align = align;
      size = size;
      fill = fill;
    }

root : Inode
unfolding inode
root = inode 0 Directory 493 4 0 no_bytes

-- only the root: its inode has neither size nor offset
empty : layout Little [] root nothing ([]) ≡ joined (
    lows (684539205 ∷ 4096 ∷ 2051 ∷ 0 ∷ [])
    ∷ codes "Compressed ROMFS"
    ∷ lows (1014348997 ∷ 0 ∷ 1 ∷ 1 ∷ [])
    ∷ zeros 16
    ∷ lows (16877 ∷ 0 ∷ 0 ∷ [])
    ∷ zeros 4020
    ∷ []
    )
unfolding zeros joined lows highs inode root layout with_crc with_part superblock size_of entry_bytes kept data_of
    crc_of after_bit
empty = refl

-- the file `a` of five bytes
hello_names : Names
unfolding inode
hello_names = leaf (codes "a") (inode 1 Regular 420 4 5 (source 0)) nothing

hello : layout Little (codes "vol") root hello_names (codes "hello" ∷ []) ≡ joined (
    lows (684539205 ∷ 4096 ∷ 2051 ∷ 0 ∷ [])
    ∷ codes "Compressed ROMFS"
    ∷ lows (1804495945 ∷ 0 ∷ 1 ∷ 2 ∷ [])
    ∷ codes "vol"
    ∷ zeros 13
    ∷ lows (16877 ∷ 16 ∷ 1216 ∷ [])
    ∷ lows (33188 ∷ 5 ∷ 1473 ∷ [])
    ∷ codes "a"
    ∷ zeros 3
    ∷ lows (3221225496 ∷ [])
    ∷ codes "hello"
    ∷ zeros 3995
    ∷ []
    )
unfolding zeros joined lows highs inode root hello_names layout with_crc with_part superblock size_of entry_bytes kept
    data_of crc_of after_bit
hello = refl

hello_big : layout Big (codes "vol") root hello_names (codes "hello" ∷ []) ≡ joined (
    highs (684539205 ∷ 4096 ∷ 2051 ∷ 0 ∷ [])
    ∷ codes "Compressed ROMFS"
    ∷ highs (3692046344 ∷ 0 ∷ 1 ∷ 2 ∷ [])
    ∷ codes "vol"
    ∷ zeros 13
    ∷ highs (1106051072 ∷ 4096 ∷ 19 ∷ [])
    ∷ highs (2175008768 ∷ 1280 ∷ 67108887 ∷ [])
    ∷ codes "a"
    ∷ zeros 3
    ∷ highs (3221225496 ∷ [])
    ∷ codes "hello"
    ∷ zeros 3995
    ∷ []
    )
unfolding zeros joined lows highs inode root hello_names layout with_crc with_part superblock size_of entry_bytes kept
    data_of crc_of after_bit
hello_big = refl

-- the files `a` and `b` with the contents of one source
shared_names : Names
unfolding inode
shared_names = leaf (codes "a") (inode 1 Regular 420 4 5 (source 0))
    (leaf (codes "b") (inode 2 Regular 420 4 5 (source 0)) nothing)

shared_table : layout Little [] root shared_names (codes "hello" ∷ []) ≡ joined (
    lows (684539205 ∷ 4096 ∷ 2051 ∷ 0 ∷ [])
    ∷ codes "Compressed ROMFS"
    ∷ lows (2588327420 ∷ 0 ∷ 1 ∷ 3 ∷ [])
    ∷ zeros 16
    ∷ lows (16877 ∷ 32 ∷ 1216 ∷ [])
    ∷ lows (33188 ∷ 5 ∷ 1729 ∷ [])
    ∷ codes "a"
    ∷ zeros 3
    ∷ lows (33188 ∷ 5 ∷ 1729 ∷ [])
    ∷ codes "b"
    ∷ zeros 3
    ∷ lows (3221225500 ∷ [])
    ∷ codes "hello"
    ∷ zeros 3979
    ∷ []
    )
unfolding zeros joined lows highs inode root shared_names layout with_crc with_part superblock size_of entry_bytes kept
    data_of crc_of after_bit
shared_table = refl

shared_table_big : layout Big [] root shared_names (codes "hello" ∷ []) ≡ joined (
    highs (684539205 ∷ 4096 ∷ 2051 ∷ 0 ∷ [])
    ∷ codes "Compressed ROMFS"
    ∷ highs (3353385363 ∷ 0 ∷ 1 ∷ 3 ∷ [])
    ∷ zeros 16
    ∷ highs (1106051072 ∷ 8192 ∷ 19 ∷ [])
    ∷ highs (2175008768 ∷ 1280 ∷ 67108891 ∷ [])
    ∷ codes "a"
    ∷ zeros 3
    ∷ highs (2175008768 ∷ 1280 ∷ 67108891 ∷ [])
    ∷ codes "b"
    ∷ zeros 3
    ∷ highs (3221225500 ∷ [])
    ∷ codes "hello"
    ∷ zeros 3979
    ∷ []
    )
unfolding zeros joined lows highs inode root shared_names layout with_crc with_part superblock size_of entry_bytes kept
    data_of crc_of after_bit
shared_table_big = refl

-- the directory `d` with the link `l` to `/x`, and the device `n`
device_names : Names
unfolding inode
device_names =
    subdirectory (codes "d") (inode 1 Directory 493 4 0 no_bytes)
    (leaf (codes "l") (inode 2 Symlink 511 4 2 (text (codes "/x"))) nothing)
    (leaf (codes "n") (record {
      line = 3;
      kind = Character;
      mode = 384;
      uid = 0;
      gid = 0;
      major = 1;
      minor = 3;
      align = 4;
      size = 0;
      fill = no_bytes;
    }) nothing)

link_and_device : layout Little [] root device_names ([]) ≡ joined (
    lows (684539205 ∷ 4096 ∷ 2051 ∷ 0 ∷ [])
    ∷ codes "Compressed ROMFS"
    ∷ lows (1093505276 ∷ 0 ∷ 1 ∷ 4 ∷ [])
    ∷ zeros 16
    ∷ lows (16877 ∷ 32 ∷ 1216 ∷ [])
    ∷ lows (16877 ∷ 16 ∷ 1729 ∷ [])
    ∷ codes "d"
    ∷ zeros 3
    ∷ lows (8576 ∷ 259 ∷ 1 ∷ [])
    ∷ codes "n"
    ∷ zeros 3
    ∷ lows (41471 ∷ 2 ∷ 1985 ∷ [])
    ∷ codes "l"
    ∷ zeros 3
    ∷ lows (3221225504 ∷ [])
    ∷ codes "/x"
    ∷ zeros 3966
    ∷ []
    )
unfolding zeros joined lows highs inode root device_names layout with_crc with_part superblock size_of entry_bytes kept
    data_of crc_of after_bit
link_and_device = refl

link_and_device_big : layout Big [] root device_names ([]) ≡ joined (
    highs (684539205 ∷ 4096 ∷ 2051 ∷ 0 ∷ [])
    ∷ codes "Compressed ROMFS"
    ∷ highs (1984901153 ∷ 0 ∷ 1 ∷ 4 ∷ [])
    ∷ zeros 16
    ∷ highs (1106051072 ∷ 8192 ∷ 19 ∷ [])
    ∷ highs (1106051072 ∷ 4096 ∷ 67108891 ∷ [])
    ∷ codes "d"
    ∷ zeros 3
    ∷ highs (562036736 ∷ 66304 ∷ 67108864 ∷ [])
    ∷ codes "n"
    ∷ zeros 3
    ∷ highs (2717843456 ∷ 512 ∷ 67108895 ∷ [])
    ∷ codes "l"
    ∷ zeros 3
    ∷ highs (3221225504 ∷ [])
    ∷ codes "/x"
    ∷ zeros 3966
    ∷ []
    )
unfolding zeros joined lows highs inode root device_names layout with_crc with_part superblock size_of entry_bytes kept
    data_of crc_of after_bit
link_and_device_big = refl

-- a file of three bytes that is aligned to 4096
aligned_names : Names
unfolding inode
aligned_names = leaf (codes "k") (inode 1 Regular 420 4096 3 (source 0)) nothing

aligned : layout Little [] root aligned_names (codes "abc" ∷ []) ≡ joined (
    lows (684539205 ∷ 8192 ∷ 2051 ∷ 0 ∷ [])
    ∷ codes "Compressed ROMFS"
    ∷ lows (490125112 ∷ 0 ∷ 2 ∷ 2 ∷ [])
    ∷ zeros 16
    ∷ lows (16877 ∷ 16 ∷ 1216 ∷ [])
    ∷ lows (33188 ∷ 3 ∷ 1473 ∷ [])
    ∷ codes "k"
    ∷ zeros 3
    ∷ lows (3221226496 ∷ [])
    ∷ zeros 4000
    ∷ codes "abc"
    ∷ zeros 4093
    ∷ []
    )
unfolding zeros joined lows highs inode root aligned_names layout with_crc with_part superblock size_of entry_bytes kept
    data_of crc_of after_bit
aligned = refl

-- the file `e`, aligned to 256, and before it in the layout `d/x` with the same contents, which has the table and the
-- blocks
same_names : Names
unfolding inode
same_names =
    subdirectory (codes "d") (inode 2 Directory 493 4 0 no_bytes)
    (leaf (codes "x") (inode 3 Regular 384 256 5 (source 0)) nothing)
    (leaf (codes "e") (inode 1 Regular 420 256 5 (source 0)) nothing)

same_first : layout Little [] root same_names (codes "hello" ∷ []) ≡ joined (
    lows (684539205 ∷ 4096 ∷ 2051 ∷ 0 ∷ [])
    ∷ codes "Compressed ROMFS"
    ∷ lows (3997423803 ∷ 0 ∷ 1 ∷ 4 ∷ [])
    ∷ zeros 16
    ∷ lows (16877 ∷ 32 ∷ 1216 ∷ [])
    ∷ lows (16877 ∷ 16 ∷ 1729 ∷ [])
    ∷ codes "d"
    ∷ zeros 3
    ∷ lows (33188 ∷ 5 ∷ 1985 ∷ [])
    ∷ codes "e"
    ∷ zeros 3
    ∷ lows (33152 ∷ 5 ∷ 1985 ∷ [])
    ∷ codes "x"
    ∷ zeros 3
    ∷ lows (3221225536 ∷ [])
    ∷ zeros 128
    ∷ codes "hello"
    ∷ zeros 3835
    ∷ []
    )
unfolding zeros joined lows highs inode root same_names layout with_crc with_part superblock size_of entry_bytes kept
    data_of crc_of after_bit
same_first = refl

-- an item, and sections
item : ℕ → ℕ → ℕ → ℕ → List ℕ → ℕ → ℕ → ℕ → Fill → Item
item place first second third name table start len fill =
    record {
      place = place;
      first = first;
      second = second;
      third = third;
      name = name;
      table = table;
      start = start;
      len = len;
      fill = fill;
    }

device_items : items_of Little root device_names ≡
    item 64 16877 32 1216 [] 0 0 0 no_bytes
    ∷ item 76 16877 16 1729 (codes "d") 0 0 0 no_bytes
    ∷ item 92 8576 259 1 (codes "n") 0 0 0 no_bytes
    ∷ item 108 41471 2 1985 (codes "l") 124 128 2 (text (codes "/x"))
    ∷ []
unfolding item inode root device_names kept data_of
device_items = refl

device_items_big : items_of Big root device_names ≡
    item 64 1106051072 8192 19 [] 0 0 0 no_bytes
    ∷ item 76 1106051072 4096 67108891 (codes "d") 0 0 0 no_bytes
    ∷ item 92 562036736 66304 67108864 (codes "n") 0 0 0 no_bytes
    ∷ item 108 2717843456 512 67108895 (codes "l") 124 128 2 (text (codes "/x"))
    ∷ []
unfolding item inode root device_names kept data_of
device_items_big = refl

same_items : items_of Little root same_names ≡
    item 64 16877 32 1216 [] 0 0 0 no_bytes
    ∷ item 76 16877 16 1729 (codes "d") 0 0 0 no_bytes
    ∷ item 92 33188 5 1985 (codes "e") 124 256 5 (source 0)
    ∷ item 108 33152 5 1985 (codes "x") 124 256 5 (source 0)
    ∷ []
unfolding item inode root same_names kept data_of
same_items = refl

device_sections : sections_of (items_of Little root device_names) ≡
    section 0 76 super ∷ section 76 16 (record_of 1) ∷ section 92 16 (record_of 2) ∷ section 108 16 (record_of 3)
    ∷ section 124 4 (table_of 3) ∷ section 128 2 (text_of 3) ∷ []
unfolding inode root device_names kept data_of
device_sections = refl

-- the table is that of the least item that has it
same_sections : sections_of (items_of Little root same_names) ≡
    section 0 76 super ∷ section 76 16 (record_of 1) ∷ section 92 16 (record_of 2) ∷ section 108 16 (record_of 3)
    ∷ section 124 4 (table_of 2) ∷ section 256 5 (contents_of 0) ∷ []
unfolding inode root same_names kept data_of
same_sections = refl
