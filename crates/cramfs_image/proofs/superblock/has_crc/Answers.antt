use Rattle.cramfs_image.proofs.Crcs.{no_crc, right_crc, wrong_crc}
use Rattle.cramfs_image.proofs.superblock.has_crc.Goals as goal

pub returns-then-word-ne1-clause-right : goal.returns-then-word-ne1-clause-right
returns-then-word-ne1-clause-right c =
    no_crc c.args.b.now.order c.args.b.now.bytes.now c.word.result c.word.ensures c.if-word-ne1.true

pub returns-then-word-crc_with_no_field-clause-wrong : goal.returns-then-word-crc_with_no_field-clause-wrong
returns-then-word-crc_with_no_field-clause-wrong c =
    wrong_crc c.args.b.now.order c.args.b.now.bytes.now c.word.result c.word-2.result _ c.word.ensures
    c.if-word-ne1.false c.word-2.ensures c.crc_with_no_field.ensures c.if-word-crc_with_no_field.true

pub returns-clause-right : goal.returns-clause-right
returns-clause-right c = right_crc c.args.b.now.order c.args.b.now.bytes.now c.word-2.result _ c.word-2.ensures
    c.crc_with_no_field.ensures c.if-word-crc_with_no_field.false
