use Rattle.std.proofs.Common.{refl}
use Rattle.rom_tree.specs.Image.{Image}
use Rattle.image_check.specs.Any.{any_view}
use Rattle.image_compare.specs.Digests.{digest_text}
use Rattle.rom_commands.specs.declared.ending.Ending.TheVariants.{Done}
use Rattle.rom_commands.proofs.digests.write_all.Goals as goal

pub returns-in-Ok : goal.returns-in-Ok
returns-in-Ok g c =
    let m : Image = any_view c.args.image.now in
    (digest_text m.bytes m.tree, (refl, refl), c.in-Ok.ensures.ok, c.in-Ok.ensures.quiet)

pub returns-in-Err-LongPath : goal.returns-in-Err-LongPath
returns-in-Err-LongPath g c =
    let m : Image = any_view c.args.image.now in
    let e = c.in-Err-LongPath.field-0-is in (
      digest_text m.bytes m.tree,
      (refl, c.in-Err-LongPath.ensures.long e, refl),
      c.in-Err-LongPath.ensures.err,
      c.in-Err-LongPath.ensures.still e,
    )

pub returns-in-Err-WriteFault : goal.returns-in-Err-WriteFault
returns-in-Err-WriteFault g c =
    let m : Image = any_view c.args.image.now in
    let e = c.in-Err-WriteFault.field-0-is in (
      digest_text m.bytes m.tree,
      (Done, (refl, refl)),
      c.in-Err-WriteFault.ensures.err,
      c.in-Err-WriteFault.ensures.rose e,
    )
