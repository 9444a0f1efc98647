use Rattle.rom_tree.specs.Image.{Image}
use Rattle.image_check.specs.Any.{any_view}
use Rattle.rom_commands.specs.Texts.{IsDiff, StopsDiff}
use Rattle.rom_commands.proofs.Closed.{closed}
use Rattle.rom_commands.proofs.differences.print_diff.Goals as goal

pub returns : goal.returns
returns g c =
    let a : Image = any_view c.args.old.now in
    let b : Image = any_view c.args.new.now in
    closed (IsDiff c.args.places a b) (StopsDiff a b)
    (g.W.ByteWrite.output c.args.out.now) (g.W.ByteWrite.output c.write_all-printed.new.w)
    (g.W.ByteWrite.output c.end.new.out) (g.E.ByteWrite.output c.args.err.now) (g.E.ByteWrite.output c.end.new.err)
    c.end.result c.end.ensures.kept c.write_all-printed.result c.write_all-printed.ensures c.end.ensures.ends
