use Rattle.std.specs.Prelude.{codes}
use Rattle.rom_fields.proofs.Joins.{chain}
use Rattle.image_info.specs.Info.{text_line, number_line, word_line, romfs_text}
use Rattle.image_info.proofs.Joined.{by_value}
use Rattle.image_info.proofs.superblock.put_romfs.Goals as goal

pub returns : goal.returns
unfolding romfs_text
returns g c =
    chain (by_value (number_line (codes "size ")) c.stated_size.ensures c.put_number.ensures)
    (chain c.put_number-2.ensures
    (chain (by_value (text_line (codes "volume ")) c.volume.ensures c.put_text.ensures)
    (by_value (word_line (codes "sum ")) c.stored_sum.ensures c.put_word.ensures)))
