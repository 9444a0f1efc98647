use Rattle.std.proofs.Common.{[], refl}
use Rattle.rom_fields.proofs.Joins.{appends_none}
use Rattle.image_extents.specs.Lines.{extents_text}
use Rattle.rom_commands.specs.declared.ending.Ending.TheVariants.{Done}
use Rattle.rom_commands.proofs.Lines.{in_order}
use Rattle.rom_commands.proofs.flash.write_all.Goals as goal

pub returns-in_default : goal.returns-in_default
returns-in_default g c =
    ([], (refl, refl), ([], [], appends_none (g.W.ByteWrite.output c.args.w.now).contents, refl), refl)

pub write_extents-requires : goal.write_extents-requires
write_extents-requires g c = in_order c.args.image.now c.in-Ok.found c.in-Ok.ensures

pub returns-in-Ok-write_extents : goal.returns-in-Ok-write_extents
returns-in-Ok-write_extents g c = (
  extents_text c.args.base c.args.file c.in-Ok.found,
  record { found = c.in-Ok.found; are = c.in-Ok.ensures; same = refl; ends = refl },
  c.in-Ok-write_extents.ensures.text,
  c.in-Ok-write_extents.ensures.count,
)

pub returns : goal.returns
returns g c = (
  extents_text c.args.base c.args.file c.in-Ok.found,
  (Done, record { found = c.in-Ok.found; are = c.in-Ok.ensures; same = refl; ends = refl }),
  c.in-Err.ensures.text,
  c.in-Err.ensures.count,
)
