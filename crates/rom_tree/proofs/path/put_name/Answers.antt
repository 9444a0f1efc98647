use Rattle.rom_fields.specs.Written.{sink}
use Rattle.rom_fields.proofs.Joins.{puts_nothing, chain}
use Rattle.rom_tree.proofs.Paths.{escaped_none, escaped_below}
use Rattle.rom_tree.proofs.path.put_name.Goals as goal

pub returns-in-Some : goal.returns-in-Some
returns-in-Some g c = rw (c.in-Some.is, escaped_below c.in-Some.name.now) (chain c.put.ensures c.put_escaped.ensures)

pub returns-in_default : goal.returns-in_default
returns-in_default g c =
    rw (c.in_default.is, escaped_none) (puts_nothing (sink (g.W.ByteWrite.output c.args.w.now) c.args.failed.now))
