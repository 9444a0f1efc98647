use Rattle.std.proofs.Common.{◌≡◌, get_or, arith}
use Rattle.std.proofs.lemmas.Grind.{common_steps}
use Rattle.rom_fields.proofs.contents.Contents.get.Goals as goal

pub returns-then-i-len : goal.returns-then-i-len
returns-then-i-len c = let at : c.index.result.now ≡ get_or c.self.inside.slices.items c.args.i c.index.result.now =
    c.index.ensures in grind (arith, common_steps)
