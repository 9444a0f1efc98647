use Rattle.rom_fields.proofs.Joins.{chain}
use Rattle.image_info.specs.Info.{report_text}
use Rattle.image_info.proofs.info.put_report.Goals as goal

pub returns : goal.returns
unfolding report_text
returns g c = chain c.put_number.ensures c.put_number-2.ensures
