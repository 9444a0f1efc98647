-- The texts of lines that are given part by part. (This project's own.)
use Rattle.std.specs.Prelude.{ℕ, List, decimal}
use Rattle.std.specs.List.{flat_map}
use Rattle.rom_fields.specs.Texts.{octal, escaped}
use Rattle.build_commands.specs.declared.part.Part.{Part}
use Rattle.build_commands.specs.declared.part.Part.TheVariants.{Text, Number, Mode, Name}

-- the text of a part
unfoldable pub part_text : Part → List ℕ
part_text (Text b) = b.now
part_text (Number n) = decimal n
part_text (Mode m) = octal m
part_text (Name b) = escaped b.now

-- the texts of parts, one after the other
unfoldable pub line_text : List Part → List ℕ
line_text parts = flat_map part_text parts
