use Rattle.std.proofs.Common.{◌≡◌, arith}
use Rattle.std.proofs.lemmas.Grind.{common_steps}
use Rattle.rom_fields.specs.Words.{word_be}
use Rattle.rom_fields.proofs.word.be32.Goals as goal

pub returns : goal.returns
unfolding word_be
returns c = let word : c.read_u32.result ≡ word_be c.args.b.now c.args.at =
    grind (arith, common_steps) in (grind (arith, common_steps), word)
