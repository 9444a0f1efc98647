use Rattle.rom_fields.proofs.Joins.{chain}
use Rattle.program_report.specs.Lines.{total_line}
use Rattle.program_report.proofs.lines.put_total.Goals as goal

pub returns : goal.returns
unfolding total_line
returns g c =
    chain c.put.ensures (chain c.put_number.ensures (chain c.put_number-2.ensures
    (chain c.put_number-3.ensures (chain c.put_number-4.ensures c.put-2.ensures))))
