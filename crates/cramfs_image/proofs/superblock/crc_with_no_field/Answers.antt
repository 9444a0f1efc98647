use Rattle.std.proofs.Common.{length-take, arith}
use Rattle.cramfs_image.proofs.Crcs.{parts_crc}
use Rattle.cramfs_image.proofs.superblock.crc_with_no_field.Goals as goal

pub slice_bounds-crc32-end : goal.slice_bounds-crc32-end
slice_bounds-crc32-end c = let k = length-take 32 c.args.b.now in let l = c.requires in omega arith

pub returns : goal.returns
returns c =
    parts_crc c.args.b.now c.as_slice.result.now c.crc32-front.result c.crc32_more-upto.result c.crc32_more.result
    c.as_slice.ensures c.crc32-front.ensures c.crc32_more-upto.ensures.more c.crc32_more.ensures.more
