-- The C identifier of a path, the names of macros, and C strings. (This project's own.)
use Rattle.std.specs.Prelude.{ℕ, ◌+◌, ◌/◌, ◌%◌, ◌==◌, ◌&&◌}
use Rattle.std.specs.Prelude.{◌||◌, Bool, true, false, if◌then◌else◌, nat_lt}
use Rattle.std.specs.Prelude.{nat_le}
use Rattle.std.specs.Prelude.{List, [], ◌∷◌, ◌++◌, codes}
use Rattle.std.specs.Prelude.{◌<◌}
use Rattle.std.specs.List.{All, flat_map}

abbrev pub is_letter : ℕ → Bool
is_letter b = (nat_le 65 b && nat_le b 90) || (nat_le 97 b && nat_le b 122)

abbrev pub is_digit : ℕ → Bool
is_digit b = nat_le 48 b && nat_le b 57

-- a letter, a digit or an underscore
abbrev pub is_word : ℕ → Bool
is_word b = is_letter b || (is_digit b || b == 95)

abbrev pub are_words : List ℕ → Bool
are_words [] = true
are_words (b ∷ bs) = if is_word b then are_words bs else false

-- what the names of a header may begin with: a letter, and letters, digits and underscores
abbrev pub is_prefix : List ℕ → Bool
is_prefix [] = false
is_prefix (b ∷ bs) = is_letter b && are_words bs

-- the lower-case hexadecimal digit of a number below 16
abbrev pub hex_digit : ℕ → ℕ
hex_digit n = if nat_lt n 10 then 48 + n else (if nat_lt n 16 then 87 + n else 102)

-- What an identifier has for a byte of a path: `_` for a slash; a letter other than Z or a digit as
-- it is; otherwise Z with a code. No code is the front of another one.
unfoldable pub code_of : ℕ → List ℕ
code_of b =
    if b == 47 then 95 ∷ [] else (if b == 90 then 90 ∷ 90 ∷ []
    else (if is_letter b || is_digit b then b ∷ [] else (if b == 46 then 90 ∷ 100 ∷ []
    else (if b == 45 then 90 ∷ 104 ∷ [] else (if b == 95 then 90 ∷ 117 ∷ []
    else 90 ∷ 120 ∷ hex_digit (b / 16) ∷ hex_digit (b % 16) ∷ [])))))

unfoldable pub identifier : List ℕ → List ℕ
identifier path = flat_map code_of path

-- A macro of a header: its guard, the address of the image's first byte, how many bytes the image
-- has; and of a file, by its path: its address, its length and its path.
pub data Macro : Type 0 where
  Guard : Macro
  Base : Macro
  Size : Macro
  Address : List ℕ → Macro
  Length : List ℕ → Macro
  Path : List ℕ → Macro

unfoldable pub macro_name : List ℕ → Macro → List ℕ
macro_name prefix Guard = prefix ++ codes "_MAP_H"
macro_name prefix Base = prefix ++ codes "_BASE"
macro_name prefix Size = prefix ++ codes "_SIZE"
macro_name prefix (Address path) = prefix ++ (identifier path ++ codes "_ADDRESS")
macro_name prefix (Length path) = prefix ++ (identifier path ++ codes "_LENGTH")
macro_name prefix (Path path) = prefix ++ (identifier path ++ codes "_PATH")

-- the path of the file that a macro is about, if there is one
abbrev pub path_of : Macro → List ℕ
path_of (Address path) = path
path_of (Length path) = path
path_of (Path path) = path
path_of _ = []

-- the path has only bytes
abbrev pub HasBytes : Macro → Type 0
HasBytes m = All (λ b. b < 256) (path_of m)

-- a backslash and three octal digits
abbrev pub octal_byte : ℕ → List ℕ
octal_byte b = 92 ∷ (48 + b / 64) ∷ (48 + b / 8 % 8) ∷ (48 + b % 8) ∷ []

-- letters, digits, `/`, `.`, `-` and `_` as they are
unfoldable pub text_byte : ℕ → List ℕ
text_byte b =
    if is_letter b || (is_digit b || (b == 47 || (b == 46 || (b == 45 || b == 95))))
    then b ∷ [] else octal_byte b

-- a C string with these bytes
unfoldable pub text_of : List ℕ → List ℕ
text_of bytes = 34 ∷ [] ++ (flat_map text_byte bytes ++ 34 ∷ [])
