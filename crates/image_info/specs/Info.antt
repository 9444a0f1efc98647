-- `info_text`: a line for each fact of a valid image: of its superblock, of the check's report, of
-- its names and of its gaps. (The lines are this project's own. The fields are those of Linux
-- Documentation/filesystems/romfs.rst, cramfs.rst, and include/uapi/linux/cramfs_fs.h.)
use Rattle.std.specs.Prelude.{ℕ, List, ◌++◌, codes, decimal}
use Rattle.rom_fields.specs.Texts.{escaped}
use Rattle.rom_fields.specs.Words.{word_be}
use Rattle.rom_tree.specs.Names.{names}
use Rattle.rom_tree.specs.declared.types.Report.{Report}
use Rattle.romfs_format.specs.Tree.{full_size}
use Rattle.cramfs_format.specs.declared.order.Order.{Order}
use Rattle.cramfs_format.specs.Order.{word}
use Rattle.cramfs_format.specs.Superblock.{accessible_size, flags_of}
use Rattle.romfs_image.specs.Reported.{image_of as romfs_image_of}
use Rattle.cramfs_image.specs.Reported.{image_of as cramfs_image_of, order_in}
use Rattle.formats.specs.Format.{name_of}
use Rattle.image_check.specs.declared.any.AnyImage.{AnyImage}
use Rattle.image_check.specs.declared.any.AnyImage.TheVariants.{Romfs, Cramfs}
use Rattle.image_check.specs.Any.{any_view, image_format, report_of}
use Rattle.image_info.specs.Gaps.{gaps_of}
use Rattle.image_info.specs.Map.{eight_digits}
use Rattle.image_info.specs.declared.tally.Tally.{Tally}
use Rattle.image_info.specs.Volumes.{romfs_volume, cramfs_volume}
use Rattle.image_info.specs.Tallies.{tally_of}

-- KEY and a text as it is
abbrev pub plain_line : List ℕ → List ℕ → List ℕ
plain_line key text = key ++ (text ++ codes "\n")

-- KEY and an escaped text; if it is empty, the line ends with a space
abbrev pub text_line : List ℕ → List ℕ → List ℕ
text_line key text = plain_line key (escaped text)

-- KEY and a decimal number
abbrev pub number_line : List ℕ → ℕ → List ℕ
number_line key n = plain_line key (decimal n)

-- KEY, `0x` and eight hexadecimal digits
abbrev pub word_line : List ℕ → ℕ → List ℕ
word_line key n = key ++ (codes "0x" ++ (eight_digits n ++ codes "\n"))

-- the superblock of a romfs image in a file of `file` bytes, without the line of the format: its
-- full size, at 8, and its checksum, at 12
unfoldable pub romfs_text : ℕ → List ℕ → List ℕ
romfs_text file b =
    number_line (codes "size ") (full_size b)
    ++ (number_line (codes "file ") file
    ++ (text_line (codes "volume ") (romfs_volume b) ++ word_line (codes "sum ") (word_be b 12)))

-- the superblock of a cramfs image in a file of `file` bytes, without the line of the format: the
-- number of accessible bytes, its flags, at 8, and its CRC, at 32
unfoldable pub cramfs_text : ℕ → Order → List ℕ → List ℕ
cramfs_text file o b =
    number_line (codes "size ") (accessible_size o b)
    ++ (number_line (codes "file ") file
    ++ (text_line (codes "volume ") (cramfs_volume b)
    ++ (word_line (codes "flags ") (flags_of o b) ++ word_line (codes "sum ") (word o b 32))))

-- by the image's format
abbrev pub fields_text : ℕ → AnyImage → List ℕ
fields_text file (Romfs s) = romfs_text file (romfs_image_of s).bytes
fields_text file (Cramfs s) = cramfs_text file (order_in s) (cramfs_image_of s).bytes

-- the format, and the superblock
abbrev pub superblock_text : ℕ → AnyImage → List ℕ
superblock_text file a =
    plain_line (codes "format ") (name_of (image_format a)) ++ fields_text file a

-- the number of references, and the depth
unfoldable pub report_text : Report → List ℕ
report_text r =
    number_line (codes "references ") r.references ++ number_line (codes "depth ") r.depth

-- the numbers of names that lead to regular files, directories, symbolic links and other nodes, and
-- the number of bytes of all files
unfoldable pub tally_text : Tally → List ℕ
tally_text t =
    number_line (codes "files ") t.files
    ++ (number_line (codes "folders ") t.directories
    ++ (number_line (codes "links ") t.links
    ++ (number_line (codes "others ") t.others
    ++ number_line (codes "contents ") t.contents)))

-- all lines of an image in a file of `file` bytes; the last is the number of accessible bytes that
-- nothing uses
unfoldable pub info_text : ℕ → AnyImage → List ℕ
info_text file a =
    superblock_text file a
    ++ (report_text (report_of a)
    ++ (tally_text (tally_of (names (any_view a).tree)) ++ number_line (codes "gaps ") (gaps_of a)))
