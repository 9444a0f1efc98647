-- `Format`: romfs, or cramfs in a byte order. `format_of`: a format of the code as one of these.
-- `name_of`: the word that names a format of the code. (This project's own.)
use Rattle.std.specs.Prelude.{ℕ, List, codes}
use Rattle.cramfs_format.specs.declared.order.Order.{Order}
use Rattle.cramfs_format.specs.declared.order.Order.TheVariants.{Little, Big}
use Rattle.formats.specs.declared.format.Format as code
use Rattle.formats.specs.declared.format.Format.TheVariants.{Romfs, Cramfs, CramfsBig}

pub data Format : Type 0 where
  romfs : Format
  cramfs : Order → Format

-- a format of the code
abbrev pub format_of : code.Format → Format
format_of Romfs = romfs
format_of Cramfs = cramfs Little
format_of CramfsBig = cramfs Big

-- cramfs of the code, in a byte order
abbrev pub cramfs_in : Order → code.Format
cramfs_in Little = Cramfs
cramfs_in Big = CramfsBig

-- the word that names a format
abbrev pub name_of : code.Format → List ℕ
name_of Romfs = codes "romfs"
name_of Cramfs = codes "cramfs"
name_of CramfsBig = codes "cramfs-be"
