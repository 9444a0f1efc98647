use Rattle.std.proofs.Common.{◌≡◌, drop}
use Rattle.open_files.specs.Sessions.{is_mounted}
use Rattle.open_files.proofs.mounts.is_mounted_in.Given as goal

abbrev pub invariant-loop-mount : goal.invariant-loop-mount
invariant-loop-mount l = is_mounted l.image l.mounts ≡ is_mounted l.image (drop l.mount-index l.mounts)
