use Rattle.std.proofs.Common.{◌≤◌, length, take, arith}
use Rattle.std.proofs.lemmas.Grind.{common_steps}
use Rattle.rom_fields.proofs.faulty.FaultyByteWrite.write.Goals as goal

pub returns-else-n-eq0-clause-limit : goal.returns-else-n-eq0-clause-limit
returns-else-n-eq0-clause-limit g c = let bound : c.in-Ok.n ≤ length (take c.min-most.result c.args.b.now) =
    c.in-Ok.ensures.bound in grind (arith, common_steps)
