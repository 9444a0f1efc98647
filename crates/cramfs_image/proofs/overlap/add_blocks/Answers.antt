use Rattle.std.proofs.Common.{◌*◌, sym, arith}
use Rattle.cramfs_image.specs.SoFar.{blocks_so_far}
use Rattle.cramfs_image.proofs.Spans.{file_more}
use Rattle.cramfs_image.proofs.Blocks.{full}
use Rattle.cramfs_image.proofs.overlap.add_blocks.Goals as goal

pub pointers-preserved : goal.pointers-preserved
pointers-preserved c =
    let was = c.pointers.invariant.small in
    let now = c.in_ok-run.ensures.small in
    record {
      whole = c.in_ok-run.ensures.whole;
      small = omega arith;
      blocks = file_more c.args.b.now.order c.args.b.now.bytes.now c.pointers.i c.args.at (4096 * c.args.count)
          c.args.count c.word-pointer.result c.start_of.result 4096
          (blocks_so_far c.pointers.extents.items c.pointers.run)
          (blocks_so_far c.add_block.new.extents.items c.in_ok-run.run') _ c.pointers-test.true
          c.pointers.invariant.blocks c.in_ok-run.ensures.extents c.word-pointer.ensures c.start_of.ensures
          (sym (full c.args.count c.pointers.i c.pointers-test.true));
    }
