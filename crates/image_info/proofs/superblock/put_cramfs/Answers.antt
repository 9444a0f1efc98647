use Rattle.std.specs.Prelude.{codes}
use Rattle.rom_fields.proofs.Joins.{chain}
use Rattle.image_info.specs.Info.{text_line, number_line, word_line, cramfs_text}
use Rattle.image_info.proofs.Joined.{by_value}
use Rattle.image_info.proofs.superblock.put_cramfs.Goals as goal

pub returns : goal.returns
unfolding cramfs_text
returns g c =
    chain (by_value (number_line (codes "size ")) c.accessible_size.ensures c.put_number.ensures)
    (chain c.put_number-2.ensures
    (chain (by_value (text_line (codes "volume ")) c.volume_of_cramfs.ensures c.put_text.ensures)
    (chain (by_value (word_line (codes "flags ")) c.flags.ensures c.put_word.ensures)
    (by_value (word_line (codes "sum ")) c.stored_crc.ensures c.put_word-2.ensures))))
