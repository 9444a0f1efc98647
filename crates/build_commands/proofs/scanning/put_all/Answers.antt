use Rattle.std.proofs.Common.{sym}
use Rattle.rom_fields.proofs.Joins.{chain}
use Rattle.build_commands.proofs.Printed.{next_line}
use Rattle.build_commands.proofs.scanning.put_all.Goals as goal

pub loop-one-preserved : goal.loop-one-preserved
loop-one-preserved g c =
    rw (
      next_line c.args.front c.args.found.now c.loop-one.one-index c.one-item.result c.loop-one-test.true,
      sym c.one-item.is,
    ) (chain c.loop-one.invariant c.put_found.ensures)
