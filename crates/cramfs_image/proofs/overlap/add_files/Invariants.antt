use Rattle.cramfs_image.specs.Merged.{expanded}
use Rattle.cramfs_image.proofs.Blocks.{Done}
use Rattle.cramfs_image.proofs.overlap.add_files.Given as goal

abbrev pub invariant-files : goal.invariant-files
invariant-files l =
    Done l.b.order l.b.bytes.now l.files l.file-index (expanded l.fn.extents.items) (expanded l.extents.items) l.done
