-- The bytes of a name, as a line has them.
use Rattle.std.proofs.Common.{◌≡◌, ℕ, ◌+◌, ◌<◌, List, [], ◌∷◌, ◌++◌, length, take, get_or, refl, ap, ◌∙◌, append-nil}
use Rattle.std.proofs.lemmas.Grind.{flat_map-append}
use Rattle.std.proofs.lemmas.List.{take_more}
use Rattle.image_compare.specs.Digests.{shown_byte, shown_bytes}

pub shown_none : shown_bytes [] ≡ []
unfolding shown_bytes
shown_none = refl

shown_one : (xs : List ℕ) (b : ℕ) → shown_bytes (xs ++ b ∷ []) ≡ shown_bytes xs ++ shown_byte b
unfolding shown_bytes
shown_one xs b = flat_map-append shown_byte xs (b ∷ [])
    ∙ ap (λ (v : List ℕ). shown_bytes xs ++ v) (append-nil (shown_byte b))

-- one more byte
pub shown_more : (name : List ℕ) (i : ℕ) → i < length name
    → shown_bytes (take (i + 1) name) ≡ shown_bytes (take i name) ++ shown_byte (get_or name i 0)
shown_more name i h = ap shown_bytes (take_more name i 0 h) ∙ shown_one (take i name) (get_or name i 0)
