use Rattle.rom_fields.proofs.Joins.{chain}
use Rattle.image_info.specs.Info.{tally_text}
use Rattle.image_info.proofs.info.put_tally.Goals as goal

pub returns : goal.returns
unfolding tally_text
returns g c =
    chain c.put_number.ensures (chain c.put_number-2.ensures
    (chain c.put_number-3.ensures (chain c.put_number-4.ensures c.put_number-5.ensures)))
