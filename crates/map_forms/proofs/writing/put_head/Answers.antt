use Rattle.rom_fields.proofs.Joins.{chain}
use Rattle.map_forms.specs.Names.{identifier, macro_name}
use Rattle.map_forms.specs.Header.{definition, head_text, macro_front}
use Rattle.map_forms.proofs.writing.put_head.Goals as goal

pub returns : goal.returns
unfolding head_text definition macro_front macro_name identifier
returns g c =
    chain c.put_first_lines.ensures (chain
    (chain c.put_front.ensures (chain c.put_address.ensures c.put_behind.ensures))
    (chain c.put_front-2.ensures (chain c.put_length.ensures c.put_behind-2.ensures)))
