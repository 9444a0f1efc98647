use Rattle.rom_fields.proofs.Joins.{chain}
use Rattle.manifest.specs.Printed.{volume_text}
use Rattle.manifest.proofs.Joined.{of_name}
use Rattle.manifest.proofs.printing.put_volume.Goals as goal

pub returns-in-len1-up : goal.returns-in-len1-up
unfolding volume_text
returns-in-len1-up g c =
    of_name c.args.name.now c.in-len1-up.len_at_least
    (chain (chain c.put.ensures c.put_escaped.ensures) c.put-in-len1-up.ensures)
