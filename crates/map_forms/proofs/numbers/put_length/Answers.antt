use Rattle.rom_fields.proofs.Joins.{chain}
use Rattle.map_forms.specs.Header.{length_number}
use Rattle.map_forms.proofs.numbers.put_length.Goals as goal

pub returns : goal.returns
unfolding length_number
returns g c = chain c.put_long_decimal.ensures c.put_suffix.ensures
