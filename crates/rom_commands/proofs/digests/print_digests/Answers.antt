use Rattle.rom_tree.specs.Image.{Image}
use Rattle.image_check.specs.Any.{any_view}
use Rattle.rom_commands.specs.Texts.{IsDigests, StopsDigests}
use Rattle.rom_commands.proofs.Closed.{closed}
use Rattle.rom_commands.proofs.digests.print_digests.Goals as goal

pub returns : goal.returns
returns g c =
    let m : Image = any_view c.args.image.now in
    closed (IsDigests m) (StopsDigests m)
    (g.W.ByteWrite.output c.args.out.now) (g.W.ByteWrite.output c.write_all-printed.new.w)
    (g.W.ByteWrite.output c.end.new.out) (g.E.ByteWrite.output c.args.err.now) (g.E.ByteWrite.output c.end.new.err)
    c.end.result c.end.ensures.kept c.write_all-printed.result c.write_all-printed.ensures c.end.ensures.ends
