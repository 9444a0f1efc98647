use Rattle.std.proofs.Common.{sym, ap}
use Rattle.rom_tree.specs.Listing.{kind_letter}
use Rattle.rom_tree.proofs.line.letter_of.Goals as goal

pub returns-in-Regular : goal.returns-in-Regular
returns-in-Regular c = ap kind_letter (sym c.in-Regular.is)
