use Rattle.std.proofs.Common.{◌≡◌, ◌+◌, ◌-◌, ◌*◌, ◌%◌, ◌≤◌, ◌++◌}
use Rattle.cramfs_format.specs.Tree.{data_from}
use Rattle.cramfs_image.specs.Files.{whole_blocks}
use Rattle.cramfs_image.specs.Merged.{expanded}
use Rattle.cramfs_image.specs.SoFar.{blocks_so_far}
use Rattle.cramfs_image.proofs.overlap.add_blocks.Given as goal

abbrev pub invariant-pointers : goal.invariant-pointers
invariant-pointers l = record {
  whole : l.run.len % 4096 ≡ 0;
  small : l.run.len ≤ 4096 * l.i;
  blocks : blocks_so_far l.extents.items l.run
      ++ data_from l.b.order l.b.bytes.now (l.count - l.i) (l.at + 4 * l.i) (4096 * l.count - 4096 * l.i)
      ≡ expanded l.fn.extents.items ++ whole_blocks l.b.order l.b.bytes.now l.count l.at;
}
