use Rattle.image_info.specs.Info.{info_text}
use Rattle.rom_commands.proofs.Texts.{failed_as_well}
use Rattle.rom_commands.proofs.shown.write_facts.Goals as goal

pub returns-in-Err-clause-text : goal.returns-in-Err-clause-text
returns-in-Err-clause-text g c =
    failed_as_well (g.W.ByteWrite.output c.args.w.now) (g.W.ByteWrite.output c.write_info.new.w)
    (info_text c.args.file c.args.image.now) c.in-Err.error c.in-Err.ensures

pub returns-in-Ok-clause-text : goal.returns-in-Ok-clause-text
returns-in-Ok-clause-text g c = c.in-Ok.ensures
