use Rattle.romfs_format.proofs.Lawful.{references_lawful}
use Rattle.romfs_image.proofs.Refused.{only_memory}
use Rattle.romfs_image.proofs.again.rows_again.Goals as goal

pub traverse-requires : goal.traverse-requires
traverse-requires c = references_lawful c.args.b.now.bytes.now c.args.b.now.root c.args.b.now.below

pub unreachable-requires : goal.unreachable-requires
unreachable-requires c =
    c.in_default.not-OutOfMemory (only_memory c.args.b.now.below c.requires.1 c.in-Err.error c.in-Err.ensures.fault)
