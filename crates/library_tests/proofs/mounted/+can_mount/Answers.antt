use Rattle.std.proofs.Common.{map}
use Rattle.image_check.specs.Any.{any_view}
use Rattle.library_tests.proofs.Mountable.{no_mounts, one_more}
use Rattle.library_tests.proofs.mounted.+can_mount.Goals as goal

pub returns-in-empty : goal.returns-in-empty
returns-in-empty n c = λ t. no_mounts (map any_view c.args.images.now) c.args.mounts.now c.in-empty.len_below

pub returns-else-not-is_alone : goal.returns-else-not-is_alone
returns-else-not-is_alone n c = λ t.
    one_more (map any_view c.args.images.now) c.args.mounts.now
    (record { image = 0; on = 0; dir = record { 0 = 0 } }) c.in-len1-up.len_at_least
    (c.is_one_mount.ensures c.if-not-is_one_mount.false) (c.is_alone.ensures c.if-not-is_alone.false)
    (c.can_mount.ensures t)
