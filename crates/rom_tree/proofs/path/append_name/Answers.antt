use Rattle.std.proofs.Common.{◌≡◌, ◌<◌, ◌++◌, ◌∷◌, [], length, arith}
use Rattle.std.proofs.lemmas.Grind.{common_steps}
use Rattle.rom_tree.proofs.path.append_name.Goals as goal

pub push-requires : goal.push-requires
push-requires g c = let room : 0 < c.remaining_capacity.result = omega arith in grind (arith, common_steps)

pub returns-in-Err-clause-err : goal.returns-in-Err-clause-err
returns-in-Err-clause-err g c =
    let room : length c.in-Some.name.now < c.remaining_capacity.result = omega arith in grind (arith, common_steps)

pub returns-in-Ok-clause-ok : goal.returns-in-Ok-clause-ok
returns-in-Ok-clause-ok g c = let slash : c.push.new.self.items ≡ c.args.path.now.items ++ 47 ∷ [] =
    c.push.ensures.items in grind (arith, common_steps)
