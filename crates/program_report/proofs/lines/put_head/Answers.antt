use Rattle.rom_fields.proofs.Joins.{chain}
use Rattle.program_report.specs.Lines.{head_of}
use Rattle.program_report.proofs.lines.put_head.Goals as goal

pub returns : goal.returns
unfolding head_of
returns g c = chain c.put.ensures (chain c.put_path.ensures (chain c.put-2.ensures c.put_address.ensures))
