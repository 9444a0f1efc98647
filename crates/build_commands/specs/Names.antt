-- The names in a rule for make, as the GNU make manual has them in "Rule Syntax", "Using Wildcard
-- Characters in File Names", "Special Built-in Target Names" and "Defining Multi-Line Variables".
-- (Which names are refused is this project's own.)
use Rattle.std.specs.Prelude.{ℕ, ◌+◌, ◌==◌, nat_le, nat_lt, Bool, false, not, ◌&&◌, ◌||◌}
use Rattle.std.specs.Prelude.{List, [], ◌∷◌, ◌++◌, codes, drop, length, replicate, get_or, ◌-◌}
use Rattle.std.specs.Prelude.{if◌then◌else◌}
use Rattle.std.specs.List.{list_all, list_any}
use Rattle.std.specs.Str.{bytes_eq}

-- a byte is one of these
abbrev pub is_in : List ℕ → ℕ → Bool
is_in [] b = false
is_in (c ∷ cs) b = (b == c) || is_in cs b

-- what make reads as part of a name only behind a backslash: a space, `#`, `:`, `*`, `?`, `[`, and
-- in a target also `%`
abbrev pub is_special : Bool → ℕ → Bool
is_special is_target b = is_in (codes " #:*?[") b || (is_target && (b == 37))

-- what is before a byte that follows n backslashes: before a special one a backslash, and another
-- one for each of the n; before a dollar a dollar
abbrev pub escape : Bool → ℕ → ℕ → List ℕ
escape is_target n b =
    if is_special is_target b then replicate (n + 1) 92
    else if b == 36 then 36 ∷ [] else []

-- the backslashes that end a name after one more byte
abbrev pub backslashes : ℕ → ℕ → ℕ
backslashes n b = if b == 92 then n + 1 else 0

-- the rest of a name that follows n backslashes, as make reads it
unfoldable pub spelled_after : Bool → ℕ → List ℕ → List ℕ
spelled_after is_target n [] = []
spelled_after is_target n (b ∷ bs) =
    escape is_target n b ++ b ∷ spelled_after is_target (backslashes n b) bs

-- a name as make reads it, as a target or as a prerequisite
abbrev pub spelled : Bool → List ℕ → List ℕ
spelled is_target name = spelled_after is_target 0 name

-- from one byte to another one
abbrev pub is_from : ℕ → ℕ → ℕ → Bool
is_from first last b = nat_le first b && nat_le b last

-- digits, letters, bytes above 127, and signs that make reads as parts of names
abbrev pub is_permitted : ℕ → Bool
is_permitted b =
    is_from 48 57 b || (is_from 65 90 b || (is_from 97 122 b || (nat_lt 127 b
    || (is_in (codes "/._-+,@^~]{}'\"\\$%") b || is_in (codes " #:*?[") b))))

-- a capital letter or an underscore, as in `.PHONY`
abbrev pub is_capital : ℕ → Bool
is_capital b = is_from 65 90 b || (b == 95)

-- the name of a special target, or a directive
abbrev pub is_word_of_make : List ℕ → Bool
is_word_of_make name =
    ((get_or name 0 0 == 46) && list_all is_capital (drop 1 name))
    || (bytes_eq name (codes "define") || (bytes_eq name (codes "export")
    || (bytes_eq name (codes "override") || (bytes_eq name (codes "private")
    || (bytes_eq name (codes "undefine") || bytes_eq name (codes "unexport"))))))

-- a name has this byte
abbrev pub has : ℕ → List ℕ → Bool
has b name = list_any (λ c. c == b) name

-- a name with a backslash, a `#` and a wildcard, which make reads with a backslash too many
abbrev pub is_mixed : List ℕ → Bool
is_mixed name = has 92 name && (has 35 name && (has 42 name || (has 63 name || has 91 name)))

-- A name that can be in a rule: it is not empty, begins with no tilde, ends with neither a space
-- nor a backslash, is no word of make, does not mix what make confuses, and has only permitted
-- bytes.
abbrev pub is_sayable : List ℕ → Bool
is_sayable name =
    not (get_or name 0 126 == 126)
    && (not (is_in (codes " \\") (get_or name (length name - 1) 32))
    && (not (is_word_of_make name) && (not (is_mixed name) && list_all is_permitted name)))
