-- Worked images, by computing.
use Rattle.std.proofs.Common.{◌≡◌, ℕ, ◌-◌, List, [], ◌∷◌, ◌++◌, length, replicate, refl, codes}
use Rattle.byteorder.specs.Endian.{big_bytes}
use Rattle.rom_fields.specs.Sums.{balance, balanced, sealed}
use Rattle.rom_fields.specs.Parts.{with_part}
use Rattle.rom_tree.specs.declared.types.Kind.{Kind}
use Rattle.rom_tree.specs.declared.types.Kind.TheVariants.{Directory, Regular, Symlink, Character}
use Rattle.manifest_tree.specs.Names.{Fill, no_bytes, text, source, Inode, Names, nothing, leaf, link, subdirectory}
use Rattle.manifest_tree.specs.Items.{Item, section, super, record_of, text_of, contents_of}
use Rattle.romfs_layout.specs.Items.{items_of, sections_of}
use Rattle.romfs_layout.specs.Layout.{header_bytes, padded_name, place_of, data_align, device_of, code_of, layout}
use Rattle.romfs_layout.specs.Layout.{image_of}

zeros : ℕ → List ℕ
zeros n = replicate n 0

joined : List (List ℕ) → List ℕ
joined [] = []
joined (x ∷ xs) = x ++ joined xs

words : List ℕ → List ℕ
words [] = []
words (w ∷ ws) = big_bytes 4 w ++ words ws

-- four words, and a name in 16 bytes
header : ℕ → ℕ → ℕ → ℕ → List ℕ → List ℕ
header next spec size sum name = words (next ∷ spec ∷ size ∷ sum ∷ []) ++ (name ++ zeros (16 - length name))

-- a superblock without a volume name, and the root's header behind it
begin : ℕ → ℕ → List ℕ
begin size sum = codes "-rom1fs-" ++ (words (size ∷ sum ∷ []) ++ (zeros 16 ++ header 73 32 0 3523215255 (codes ".")))

inode : ℕ → Kind → ℕ → ℕ → ℕ → Fill → Inode
inode line kind mode align size fill =
    record {
      line = line;
      kind = kind;
      mode = mode;
      uid = 0;
      gid = 0;
      major = 0;
      minor = 0;
      align = align;
      size = size;
      fill = fill;
    }

root : Inode
unfolding inode
root = inode 0 Directory 493 4 0 no_bytes

-- only the root
empty : layout [] root nothing ([]) ≡ joined (
    begin 96 2703695110
    ∷ header 0 32 0 3520200672 (codes "..")
    ∷ zeros 928
    ∷ []
    )
unfolding zeros joined words header begin inode root layout image_of sealed with_part place_of data_align device_of
    code_of header_bytes balanced balance padded_name
empty = refl

-- the file `a` of five bytes
hello_names : Names
unfolding inode
hello_names = leaf (codes "a") (inode 1 Regular 420 4 5 (source 0)) nothing

hello : layout [] root hello_names (codes "hello" ∷ []) ≡ joined (
    begin 144 3384914026
    ∷ header 96 32 0 3520200576 (codes "..")
    ∷ header 2 0 5 2667577337 (codes "a")
    ∷ codes "hello"
    ∷ zeros 891
    ∷ []
    )
unfolding zeros joined words header begin inode root hello_names layout image_of sealed with_part place_of data_align
    device_of code_of header_bytes balanced balance padded_name
hello = refl

-- the file `a` and its further name `b`
hard_names : Names
unfolding inode
hard_names = leaf (codes "a") (inode 1 Regular 420 4 5 (source 0))
    (link (codes "b") (inode 1 Regular 420 4 5 (source 0)) nothing)

hard_link : layout [] root hard_names (codes "hello" ∷ []) ≡ joined (
    begin 176 3384913994
    ∷ header 96 32 0 3520200576 (codes "..")
    ∷ header 146 0 5 2667577193 (codes "a")
    ∷ codes "hello"
    ∷ zeros 11
    ∷ header 0 96 0 2650800032 (codes "b")
    ∷ zeros 848
    ∷ []
    )
unfolding zeros joined words header begin inode root hard_names layout image_of sealed with_part place_of data_align
    device_of code_of header_bytes balanced balance padded_name
hard_link = refl

-- the files `a` and `b` with the contents of one source, which occur twice
same_names : Names
unfolding inode
same_names = leaf (codes "a") (inode 1 Regular 420 4 5 (source 0))
    (leaf (codes "b") (inode 2 Regular 420 4 5 (source 0)) nothing)

same_contents : layout [] root same_names (codes "hello" ∷ []) ≡ joined (
    begin 192 4066132942
    ∷ header 96 32 0 3520200576 (codes "..")
    ∷ header 146 0 5 2667577193 (codes "a")
    ∷ codes "hello"
    ∷ zeros 11
    ∷ header 2 0 5 2650800121 (codes "b")
    ∷ codes "hello"
    ∷ zeros 843
    ∷ []
    )
unfolding zeros joined words header begin inode root same_names layout image_of sealed with_part place_of data_align
    device_of code_of header_bytes balanced balance padded_name
same_contents = refl

-- the directory `d` with the link `l` to `/x`, and the device `n`
device_names : Names
unfolding inode
device_names =
    subdirectory (codes "d") (inode 1 Directory 493 4 0 no_bytes)
    (leaf (codes "l") (inode 2 Symlink 511 4 2 (text (codes "/x"))) nothing)
    (leaf (codes "n") (record {
      line = 3;
      kind = Character;
      mode = 384;
      uid = 0;
      gid = 0;
      major = 1;
      minor = 3;
      align = 4;
      size = 0;
      fill = no_bytes;
    }) nothing)

link_and_device : layout [] root device_names ([]) ≡ joined (
    begin 272 1907301462
    ∷ header 96 32 0 3520200576 (codes "..")
    ∷ header 249 128 0 2617245319 (codes "d")
    ∷ header 160 96 0 3523215104 (codes ".")
    ∷ header 192 32 0 3520200480 (codes "..")
    ∷ header 3 0 2 2483027963 (codes "l")
    ∷ codes "/x"
    ∷ zeros 14
    ∷ header 5 65539 0 2449407992 (codes "n")
    ∷ zeros 752
    ∷ []
    )
unfolding zeros joined words header begin inode root device_names layout image_of sealed with_part place_of data_align
    device_of code_of header_bytes balanced balance padded_name
link_and_device = refl

-- a file of three bytes that is aligned to 4,096: its header is right before its data
aligned_names : Names
unfolding inode
aligned_names = leaf (codes "k") (inode 1 Regular 420 4096 3 (source 0)) nothing

aligned : layout [] root aligned_names (codes "abc" ∷ []) ≡ joined (
    begin 4112 2703691094
    ∷ header 4064 32 0 3520196608 (codes "..")
    ∷ zeros 3968
    ∷ header 2 0 3 2499805179 (codes "k")
    ∷ codes "abc"
    ∷ zeros 1021
    ∷ []
    )
unfolding zeros joined words header begin inode root aligned_names layout image_of sealed with_part place_of data_align
    device_of code_of header_bytes balanced balance padded_name
aligned = refl

-- the root is at 32 behind a volume name of 15 bytes, and at 48 behind one of 16
volume_of_15 : layout (codes "fifteen letters") root nothing ([]) ≡ joined (
    codes "-rom1fs-"
    ∷ words (96 ∷ 58745086 ∷ [])
    ∷ codes "fifteen letters"
    ∷ zeros 1
    ∷ header 73 32 0 3523215255 (codes ".")
    ∷ header 0 32 0 3520200672 (codes "..")
    ∷ zeros 928
    ∷ []
    )
unfolding zeros joined words header begin inode root layout image_of sealed with_part place_of data_align device_of
    code_of header_bytes balanced balance padded_name
volume_of_15 = refl

volume_of_16 : layout (codes "sixteen letters!") root nothing ([]) ≡ joined (
    codes "-rom1fs-"
    ∷ words (112 ∷ 4135603917 ∷ [])
    ∷ codes "sixteen letters!"
    ∷ zeros 16
    ∷ header 89 48 0 3523215223 (codes ".")
    ∷ header 0 48 0 3520200656 (codes "..")
    ∷ zeros 912
    ∷ []
    )
unfolding zeros joined words header begin inode root layout image_of sealed with_part place_of data_align device_of
    code_of header_bytes balanced balance padded_name
volume_of_16 = refl

-- Behind what ends at 128 an empty file is not aligned to 64, and one with bytes is: its data are at 192.
empty_not_aligned : place_of 128 (codes "b") (inode 2 Regular 420 64 0 (source 0)) ≡ 128
unfolding inode place_of data_align
empty_not_aligned = refl

aligned_to_64 : place_of 128 (codes "b") (inode 2 Regular 420 64 1 (source 0)) ≡ 160
unfolding inode place_of data_align
aligned_to_64 = refl

-- an item, which has no table here, and sections
item : ℕ → ℕ → ℕ → ℕ → List ℕ → ℕ → Fill → Item
item place next spec size name start fill =
    record {
      place = place;
      first = next;
      second = spec;
      third = size;
      name = name;
      table = 0;
      start = start;
      len = size;
      fill = fill;
    }

device_items : items_of [] root device_names ≡
    item 32 73 32 0 (codes ".") 0 no_bytes
    ∷ item 64 96 32 0 (codes "..") 0 no_bytes
    ∷ item 96 249 128 0 (codes "d") 0 no_bytes
    ∷ item 128 160 96 0 (codes ".") 0 no_bytes
    ∷ item 160 192 32 0 (codes "..") 0 no_bytes
    ∷ item 192 3 0 2 (codes "l") 224 (text (codes "/x"))
    ∷ item 240 5 65539 0 (codes "n") 0 no_bytes
    ∷ []
unfolding item inode root device_names place_of data_align device_of code_of
device_items = refl

device_sections : sections_of [] (items_of [] root device_names) ≡
    section 0 32 super ∷ section 32 32 (record_of 0) ∷ section 64 32 (record_of 1) ∷ section 96 32 (record_of 2)
    ∷ section 128 32 (record_of 3)
    ∷ section 160 32 (record_of 4) ∷ section 192 32 (record_of 5) ∷ section 224 2 (text_of 5)
    ∷ section 240 32 (record_of 6) ∷ []
unfolding inode root device_names place_of data_align device_of code_of
device_sections = refl

-- the contents of a source occur once for each file that has them
same_sections : sections_of [] (items_of [] root same_names) ≡
    section 0 32 super ∷ section 32 32 (record_of 0) ∷ section 64 32 (record_of 1) ∷ section 96 32 (record_of 2)
    ∷ section 128 5 (contents_of 0)
    ∷ section 144 32 (record_of 3) ∷ section 176 5 (contents_of 0) ∷ []
unfolding inode root same_names place_of data_align device_of code_of
same_sections = refl
