use Rattle.rom_fields.proofs.Joins.{chain}
use Rattle.program_report.proofs.lines.put_pages.Goals as goal

pub returns : goal.returns
returns g c =
    chain c.put_head.ensures (chain c.put_number.ensures
    (chain c.put_number-2.ensures (chain c.put_number-3.ensures c.put.ensures)))
