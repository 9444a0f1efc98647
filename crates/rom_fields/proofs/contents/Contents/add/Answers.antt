use Rattle.std.proofs.Common.{◌≡◌, ◌++◌, ◌∷◌, [], arith}
use Rattle.std.proofs.lemmas.Grind.{common_steps}
use Rattle.rom_fields.proofs.contents.Contents.add.Goals as goal

pub returns-clause-ok : goal.returns-clause-ok
returns-clause-ok c = let more : c.push.new.self.items ≡ c.self.inside.slices.items ++ c.args.c ∷ [] =
    c.in_ok-push.ensures.items in grind (arith, common_steps)
