use Rattle.std.proofs.Common.{◌≡◌, false, rules, arith}
use Rattle.std.proofs.lemmas.Grind.{common_steps}
use Rattle.manifest.specs.Lines.{is_file}
use Rattle.manifest.proofs.reader.note_source.Goals as goal

pub returns-else-is_file : goal.returns-else-is_file
returns-else-is_file c = let other : is_file c.args.line.now.word ≡ false = search rules in grind (arith, common_steps)
