-- `Rewrites`: bytes that a writer took were replaced. `RewritesText`: the same by the result of a
-- call. (This project's own.)
use Rattle.std.specs.Prelude.{◌≡◌, ℕ, List, ◌++◌, length, take, drop, Option, Result, MatchResult}
use Rattle.std.specs.Io.KnownBytes.{Appends}

-- the text with its first bytes replaced
abbrev pub rewritten : List ℕ → List ℕ → List ℕ
rewritten bytes text = bytes ++ drop (length bytes) text

-- Any text of this length that was appended last has these bytes now in place of its first ones.
abbrev pub Rewrites : Option (List ℕ) → Option (List ℕ) → ℕ → List ℕ → Type 0
Rewrites old new back bytes =
    (start : Option (List ℕ)) (text : List ℕ) → length text ≡ back → Appends start old text
    → Appends start new (rewritten bytes text)

-- all of the bytes at `Ok`, and a prefix of them at `Err`
abbrev pub RewritesText : {T E : Type 0} → Option (List ℕ) → Option (List ℕ) → Result T E → ℕ
    → List ℕ → Type 0
RewritesText old new r back bytes =
    MatchResult r (λ _. Rewrites old new back bytes)
    (λ _. (k : ℕ) × Rewrites old new back (take k bytes))
