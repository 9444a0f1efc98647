use Rattle.rom_fields.proofs.Joins.{chain}
use Rattle.manifest.proofs.Joined.{and_line}
use Rattle.manifest.proofs.printing.put_lines.Goals as goal

pub loop-e-preserved : goal.loop-e-preserved
loop-e-preserved g c =
    and_line c.args.entries.now c.loop-e.e-index _ c.loop-e-test.true (chain c.loop-e.invariant c.put_line.ensures)
