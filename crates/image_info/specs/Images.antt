-- `numbers_of`: the numbers of a checked image. (This project's own.)
use Rattle.std.specs.Prelude.{ℕ}
use Rattle.formats.specs.declared.format.Format.{Format}
use Rattle.formats.specs.declared.format.Format.TheVariants.{Romfs, Cramfs, CramfsBig}
use Rattle.image_check.specs.Any.{any_view, image_format, report_of, size_of}
use Rattle.image_check.specs.declared.any.AnyImage.{AnyImage}
use Rattle.rom_tree.specs.Tree.{ino_of}
use Rattle.image_info.specs.declared.numbers.Numbers.{Numbers}

-- the number of a format in the library for C
abbrev pub number_of : Format → ℕ
number_of Romfs = 1
number_of Cramfs = 2
number_of CramfsBig = 3

-- the format, the accessible bytes, the root's node, the references and the depth of an image
abbrev pub numbers_of : AnyImage → Numbers
numbers_of m = record {
  format = number_of (image_format m);
  size = size_of m;
  root = ino_of (any_view m).tree;
  references = (report_of m).references;
  depth = (report_of m).depth;
}
