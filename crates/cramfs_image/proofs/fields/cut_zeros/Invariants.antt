use Rattle.std.proofs.Common.{◌≡◌, ◌≤◌, length, take}
use Rattle.cramfs_format.specs.Inode.{without_zeros}
use Rattle.cramfs_image.proofs.fields.cut_zeros.Given as goal

abbrev pub invariant-loop-len : goal.invariant-loop-len
invariant-loop-len l =
    record { within : l.len ≤ length l.bytes; same : without_zeros (take l.len l.bytes) ≡ without_zeros l.bytes }

abbrev pub decreases-loop-len : goal.decreases-loop-len
decreases-loop-len l = l.len
