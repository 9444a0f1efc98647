use Rattle.std.proofs.Common.{◌≡◌, arith}
use Rattle.std.proofs.lemmas.Grind.{common_steps}
use Rattle.rom_fields.specs.Words.{word_le}
use Rattle.rom_fields.proofs.word.le32.Goals as goal

pub returns : goal.returns
unfolding word_le
returns c = let word : c.read_u32.result ≡ word_le c.args.b.now c.args.at =
    grind (arith, common_steps) in (grind (arith, common_steps), word)
