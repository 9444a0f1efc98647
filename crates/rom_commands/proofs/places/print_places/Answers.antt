use Rattle.rom_commands.specs.Texts.{IsPlaces, StopsOfMemory}
use Rattle.rom_commands.proofs.Closed.{closed}
use Rattle.rom_commands.proofs.places.print_places.Goals as goal

pub returns : goal.returns
returns g c =
    closed (IsPlaces c.args.image.now c.args.base c.args.file c.args.addresses.now) StopsOfMemory
    (g.W.ByteWrite.output c.args.out.now) (g.W.ByteWrite.output c.write_all-printed.new.w)
    (g.W.ByteWrite.output c.end.new.out) (g.E.ByteWrite.output c.args.err.now) (g.E.ByteWrite.output c.end.new.err)
    c.end.result c.end.ensures.kept c.write_all-printed.result c.write_all-printed.ensures c.end.ensures.ends
