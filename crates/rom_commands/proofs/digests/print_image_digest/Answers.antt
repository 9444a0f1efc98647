use Rattle.rom_commands.specs.Texts.{IsDigest, NeverStops}
use Rattle.rom_commands.proofs.Closed.{closed}
use Rattle.rom_commands.proofs.digests.print_image_digest.Goals as goal

pub returns : goal.returns
returns g c =
    closed (IsDigest c.args.bytes.now) NeverStops
    (g.W.ByteWrite.output c.args.out.now) (g.W.ByteWrite.output c.write_one-printed.new.w)
    (g.W.ByteWrite.output c.end.new.out) (g.E.ByteWrite.output c.args.err.now) (g.E.ByteWrite.output c.end.new.err)
    c.end.result c.end.ensures.kept c.write_one-printed.result c.write_one-printed.ensures c.end.ensures.ends
