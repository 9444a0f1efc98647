use Rattle.std.proofs.Common.{refl}
use Rattle.cramfs_image.specs.Merged.{expanded}
use Rattle.cramfs_image.proofs.Blocks.{no_file, done_start, done_more, done_end}
use Rattle.cramfs_image.proofs.overlap.add_files.Goals as goal

pub files-init : goal.files-init
files-init c =
    done_start c.args.b.now.order c.args.b.now.bytes.now c.args.files.now (expanded c.args.extents.now.items)
    (expanded c.args.extents.now.items) refl

pub files-preserved : goal.files-preserved
files-preserved c = done_more c.args.b.now.order c.args.b.now.bytes.now c.args.files.now c.files.file-index c.files.done
    _ (expanded c.args.extents.now.items) (expanded c.files.extents.items) (expanded c.add_file.new.extents.items)
    c.requires.sorted c.files-test.true
    (c.requires.lie c.files.file-index no_file c.files-test.true) c.files.invariant c.in_ok-done.ensures.extents
    c.in_ok-done.ensures.done

pub returns : goal.returns
returns c = done_end c.args.b.now.order c.args.b.now.bytes.now c.args.files.now c.files.file-index c.files.done
    (expanded c.args.extents.now.items) (expanded c.files.extents.items) c.files-test.false c.files.invariant
