use Rattle.std.proofs.Common.{length, drop, ◌-◌, ◌+◌, ◌≡◌, ◌≤◌}
use Rattle.image_manifest.specs.Open.{place_of_length}
use Rattle.image_manifest.proofs.naming.place_of_length.Given as goal

-- those so far come before it
abbrev pub invariant-loop-place : goal.invariant-loop-place
invariant-loop-place l = (l.place ≤ length l.on_way)
    × (place_of_length l.len l.on_way ≡ l.place + place_of_length l.len (drop l.place l.on_way))

abbrev pub decreases-loop-place : goal.decreases-loop-place
decreases-loop-place l = length l.on_way - l.place
