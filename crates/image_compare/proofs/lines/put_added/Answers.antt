use Rattle.rom_fields.proofs.Joins.{chain}
use Rattle.image_compare.specs.Diff.{added_line}
use Rattle.image_compare.proofs.lines.put_added.Goals as goal

pub returns : goal.returns
unfolding added_line
returns g c = chain c.put.ensures (chain c.put_escaped.ensures c.put-2.ensures)
