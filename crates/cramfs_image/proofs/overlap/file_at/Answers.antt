use Rattle.cramfs_image.proofs.Rows.{file_lies}
use Rattle.cramfs_image.proofs.overlap.file_at.Goals as goal

pub returns-clause-lies : goal.returns-clause-lies
returns-clause-lies c = file_lies c.args.b.now.order c.args.b.now.bytes.now c.args.at c.offset_at.result
    c.size_at.result c.requires.record c.requires.contents c.offset_at.ensures.offset c.size_at.ensures.size
    c.offset_at.ensures.small c.size_at.ensures.small c.offset_at.ensures.aligned
