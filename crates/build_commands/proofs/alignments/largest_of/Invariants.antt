use Rattle.std.proofs.Common.{◌≡◌, ℕ, drop}
use Rattle.build_commands.specs.Alignments.{aligned_at, largest, largest_from}
use Rattle.build_commands.proofs.alignments.largest_of.Given as goal

abbrev pub invariant-loop-file : goal.invariant-loop-file
invariant-loop-file l =
    (device number : ℕ)
    → largest_from device number (aligned_at l.largest device number) (drop l.file-index l.found)
    ≡ largest device number l.found
