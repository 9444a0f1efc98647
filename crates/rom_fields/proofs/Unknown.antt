-- A writer of which nothing is known.
use Rattle.std.proofs.Common.{ℕ, List, [], Option, Some, None, Result, Ok, Err}
use Rattle.rom_fields.specs.Rewritten.{Rewrites, RewritesText}

-- nothing is promised of it
pub rewrites_unknown : (back : ℕ) (bytes : List ℕ) → Rewrites None None back bytes
rewrites_unknown back bytes None text e h = tt
rewrites_unknown back bytes (Some xs) text e h = absurd h

pub rewrites_text_unknown : {T E : Type 0} (r : Result T E) (back : ℕ) (bytes : List ℕ)
    → RewritesText None None r back bytes
rewrites_text_unknown (Ok v) back bytes = rewrites_unknown back bytes
rewrites_text_unknown (Err e) back bytes = (0, rewrites_unknown back [])
