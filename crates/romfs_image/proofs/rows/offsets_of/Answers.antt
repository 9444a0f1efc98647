use Rattle.romfs_image.proofs.Offsets.{sorted_offsets}
use Rattle.romfs_image.proofs.rows.offsets_of.Goals as goal

pub returns : goal.returns
returns c = sorted_offsets c.args.rows.now c.rows.row-index _ _ c.rows-test.false c.rows.invariant
    c.sort_unstable.ensures.permutation c.sort_unstable.ensures.sorted
