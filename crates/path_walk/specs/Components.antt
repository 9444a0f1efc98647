-- `components`: the components of a path or of the text of a symbolic link, which are its pieces
-- between slashes (POSIX.1-2017, 4.13 "Pathname Resolution").
--
-- Slashes in a row count as one, so empty pieces are left out. A slash at the end adds one more
-- component, dot: the component before that slash must then be a directory. A slash is the byte 47,
-- and a dot 46.
use Rattle.std.specs.Prelude.{ℕ, ◌==◌, Bool, true, false, not, filter, List, [], ◌∷◌, ◌++◌}
use Rattle.std.specs.Prelude.{if◌then◌else◌}
use Rattle.rom_tree.specs.Dots.{dot}

abbrev pub is_empty : {A : Type 0} → List A → Bool
is_empty [] = true
is_empty (x ∷ xs) = false

-- one more byte in front of the first piece
abbrev pub begin_piece : ℕ → List (List ℕ) → List (List ℕ)
begin_piece c [] = (c ∷ []) ∷ []
begin_piece c (p ∷ ps) = (c ∷ p) ∷ ps

-- the pieces between slashes: one more than there are slashes
unfoldable pub pieces : List ℕ → List (List ℕ)
pieces [] = [] ∷ []
pieces (c ∷ cs) = if c == 47 then [] ∷ pieces cs else begin_piece c (pieces cs)

abbrev pub begins_with_slash : List ℕ → Bool
begins_with_slash [] = false
begins_with_slash (c ∷ cs) = c == 47

abbrev pub ends_with_slash : List ℕ → Bool
ends_with_slash [] = false
ends_with_slash (c ∷ []) = c == 47
ends_with_slash (c ∷ d ∷ cs) = ends_with_slash (d ∷ cs)

-- the pieces without the empty ones
abbrev pub names_of : List (List ℕ) → List (List ℕ)
names_of ps = filter (λ p. not (is_empty p)) ps

unfoldable pub components : List ℕ → List (List ℕ)
components text = names_of (pieces text) ++ (if ends_with_slash text then dot ∷ [] else [])
