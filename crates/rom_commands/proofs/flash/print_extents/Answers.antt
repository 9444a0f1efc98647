use Rattle.rom_commands.specs.Texts.{IsExtents, StopsOfMemory}
use Rattle.rom_commands.proofs.Closed.{closed}
use Rattle.rom_commands.proofs.flash.print_extents.Goals as goal

pub returns : goal.returns
returns g c =
    closed (IsExtents c.args.image.now c.args.base c.args.file) StopsOfMemory
    (g.W.ByteWrite.output c.args.out.now) (g.W.ByteWrite.output c.write_all-printed.new.w)
    (g.W.ByteWrite.output c.end.new.out) (g.E.ByteWrite.output c.args.err.now) (g.E.ByteWrite.output c.end.new.err)
    c.end.result c.end.ensures.kept c.write_all-printed.result c.write_all-printed.ensures c.end.ensures.ends
