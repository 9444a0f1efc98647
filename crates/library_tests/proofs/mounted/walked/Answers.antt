use Rattle.std.proofs.Common.{refl, arith}
use Rattle.image_check.specs.Any.{any_view}
use Rattle.library_tests.proofs.Mountable.{three_shallow}
use Rattle.library_tests.proofs.mounted.walked.Goals as goal

pub walk_mounts-requires : goal.walk_mounts-requires
walk_mounts-requires c κs = (
  (refl, tt),
  (
    omega arith,
    (
      omega arith,
      (
        three_shallow (any_view c.in_ok-first.first) (any_view c.in_ok-second.second)
            (any_view c.in_ok-third.third) c.in_ok-first.ensures c.in_ok-second.ensures c.in_ok-third.ensures,
        c.can_mount.ensures c.if-not-can_mount.false,
      ),
    ),
  ),
)
