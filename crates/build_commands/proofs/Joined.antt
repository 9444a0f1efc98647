-- The text of a line up to the next part.
use Rattle.std.proofs.Common.{◌≡◌, ℕ, ◌+◌, ◌<◌, List, [], ◌∷◌, ◌++◌, length, take, get_or, ap, ◌∙◌, append-nil}
use Rattle.std.specs.List.{flat_map}
use Rattle.std.proofs.lemmas.List.{take_more}
use Rattle.std.proofs.lemmas.Grind.{flat_map-append}
use Rattle.rom_fields.specs.Written.{Sink, Puts}
use Rattle.rom_fields.proofs.Joins.{chain}
use Rattle.build_commands.specs.Lines.{part_text, line_text}
use Rattle.build_commands.specs.declared.part.Part.{Part}

pub next_part : (line : List Part) (i : ℕ) (d : Part) → i < length line
    → line_text (take (i + 1) line) ≡ line_text (take i line) ++ part_text (get_or line i d)
unfolding line_text
next_part line i d h =
    ap (λ (xs : List Part). flat_map part_text xs) (take_more line i d h)
    ∙ (flat_map-append part_text (take i line) (get_or line i d ∷ [])
    ∙ ap (λ (t : List ℕ). flat_map part_text (take i line) ++ t) (append-nil (part_text (get_or line i d))))

pub next_puts : (r s t : Sink) (line : List Part) (i : ℕ) (d : Part) → i < length line
    → Puts r s (line_text (take i line)) → Puts s t (part_text (get_or line i d))
    → Puts r t (line_text (take (i + 1) line))
next_puts r s t line i d h p q = rw (next_part line i d h) (chain p q)
