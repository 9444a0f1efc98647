use Rattle.std.proofs.Common.{refl}
use Rattle.image_compare.specs.Digests.{input_line}
use Rattle.rom_commands.specs.declared.ending.Ending.TheVariants.{Done}
use Rattle.rom_commands.proofs.digests.write_one.Goals as goal

pub returns-in-Ok : goal.returns-in-Ok
returns-in-Ok g c = (input_line c.args.bytes.now, (refl, refl), c.in-Ok.ensures.text, c.in-Ok.ensures.count)

pub returns-in-Err : goal.returns-in-Err
returns-in-Err g c =
    (input_line c.args.bytes.now, (Done, (refl, refl)), c.in-Err.ensures.text, c.in-Err.ensures.count)
