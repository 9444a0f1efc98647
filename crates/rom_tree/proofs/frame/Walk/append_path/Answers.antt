use Rattle.std.proofs.Common.{◌≡◌, take, arith}
use Rattle.std.proofs.lemmas.Grind.{common_steps}
use Rattle.rom_tree.proofs.frame.Walk.append_path.Goals as goal

pub returns-then-is_err-clause-err : goal.returns-then-is_err-clause-err
returns-then-is_err-clause-err g c =
    let cut : c.truncate.new.self.items ≡ take c.len-before.result c.append_way-appended.new.path.items =
    c.truncate.ensures.items in grind (arith, common_steps)
