use Rattle.rom_tree.specs.Image.{Image}
use Rattle.program_report.proofs.Places.{led, led_nowhere}
use Rattle.program_report.proofs.missing.is_file_at.Goals as goal

pub returns-in-Ok-clause-is : goal.returns-in-Ok-clause-is
returns-in-Ok-clause-is g c =
    let m : Image = g.T.Viewed.image c.args.image.now in
    let x = c.in-Ok.ensures.leads in
    led m c.args.path.now c.is_regular_at.result x.0 x.1 (c.is_regular_at.ensures x.0 (rw c.walk.ensures.stays x.2))

pub returns-in-Err-clause-is : goal.returns-in-Err-clause-is
returns-in-Err-clause-is g c =
    let m : Image = g.T.Viewed.image c.args.image.now in
    led_nowhere m c.args.path.now c.in-Err.field-0 c.in-Err.ensures.leads
