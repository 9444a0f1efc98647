use Rattle.rom_commands.proofs.Texts.{answered, usual}
use Rattle.rom_commands.proofs.shown.check_usual.Goals as goal

pub returns-clause-answer : goal.returns-clause-answer
returns-clause-answer c =
    answered c.args.bytes.now c.usual.result c.check.result
    (usual c.usual.result c.usual.ensures.references c.usual.ensures.depth)
    c.check.ensures.ok c.check.ensures.format c.check.ensures.clean c.check.ensures.fault c.check.ensures.least
