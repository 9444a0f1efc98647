use Rattle.std.proofs.Common.{◌∙◌, ap}
use Rattle.std.specs.Prelude.{codes}
use Rattle.formats.specs.Format.{name_of}
use Rattle.rom_fields.proofs.Joins.{chain}
use Rattle.image_info.specs.Info.{plain_line}
use Rattle.image_info.proofs.Joined.{by_value}
use Rattle.image_info.proofs.by_format.put_superblock.Goals as goal

pub returns : goal.returns
returns g c =
    chain
    (by_value (plain_line (codes "format ")) (c.as_bytes.ensures.value ∙ c.name.ensures ∙ ap name_of c.format.ensures.is) c.put_plain.ensures)
    c.put_fields.ensures
