use Rattle.rom_commands.proofs.Closed.{finished}
use Rattle.rom_commands.proofs.flash.print_picture.Goals as goal

pub returns : goal.returns
returns g c =
    finished (g.W.ByteWrite.output c.write_image-printed.new.w) (g.W.ByteWrite.output c.end.new.out)
    (g.E.ByteWrite.output c.args.err.now) (g.E.ByteWrite.output c.end.new.err) c.end.result c.write_image-printed.result
    c.write_image-printed.ensures c.end.ensures.ends
