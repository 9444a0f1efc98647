use Rattle.std.proofs.Common.{◌≡◌, drop, map}
use Rattle.std.specs.List.{list_any}
use Rattle.path_patterns.specs.Patterns.{fits_bytes}
use Rattle.path_patterns.specs.Several.{behind_slash}
use Rattle.path_patterns.proofs.several.any_matches.Given as goal

abbrev pub invariant-loop-pieces : goal.invariant-loop-pieces
invariant-loop-pieces l =
    list_any (λ p. fits_bytes p l.path) (map (λ p. p.items) (drop l.pieces-index l.patterns))
    ≡ list_any (λ p. fits_bytes p (behind_slash l.fn.path)) (map (λ p. p.items) l.patterns)
