use Rattle.std.proofs.Common.{◌≡◌, drop}
use Rattle.open_files.specs.Sessions.{has_mount}
use Rattle.open_files.proofs.mounts.has_mount_in.Given as goal

abbrev pub invariant-loop-mount : goal.invariant-loop-mount
invariant-loop-mount l = has_mount l.image l.mounts ≡ has_mount l.image (drop l.mount-index l.mounts)
