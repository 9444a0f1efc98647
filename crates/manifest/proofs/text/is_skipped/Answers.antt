use Rattle.std.proofs.Common.{◌≡◌, ◌≤◌, List, ℕ, [], ◌∷◌, length, get_or, refl, arith}
use Rattle.std.specs.Prelude.{◌==◌}
use Rattle.manifest.specs.Grammar.{is_skipped}
use Rattle.manifest.proofs.text.is_skipped.Goals as goal

by_first : (line : List ℕ) → 1 ≤ length line → (get_or line 0 0 == 35) ≡ is_skipped line
by_first [] h = absurd (omega arith)
by_first (b ∷ bs) h = refl

pub returns-in-len1-up : goal.returns-in-len1-up
returns-in-len1-up c = by_first c.args.line.now c.in-len1-up.len_at_least
