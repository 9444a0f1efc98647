use Rattle.std.proofs.Common.{◌≡◌, length, map}
use Rattle.image_manifest.proofs.Wanted.{AreKnown}
use Rattle.image_manifest.proofs.choosing.wanted.Given as goal

abbrev pub invariant-loop-index : goal.invariant-loop-index
invariant-loop-index l =
    (length l.found.items ≡ l.index) × AreKnown (map (λ p. p.items) l.patterns) l.members l.index l.found.items
