use Rattle.std.proofs.Common.{◌≡◌, drop}
use Rattle.std.specs.Prelude.{find}
use Rattle.path_walk.specs.Graft.{covers}
use Rattle.path_walk.proofs.step.mounted_on.Given as goal

abbrev pub invariant-loop-mount : goal.invariant-loop-mount
invariant-loop-mount l =
    find (covers l.image l.dir.0) l.mounts ≡ find (covers l.image l.dir.0) (drop l.mount-index l.mounts)
