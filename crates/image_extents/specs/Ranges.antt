-- The ranges of lines: `ShareOut`. (This project's own.)
use Rattle.std.specs.Prelude.{◌≡◌, ◌⊎◌, ℕ, ◌+◌, ◌%◌, ◌^◌, ◌<◌, List, [], ◌∷◌, ◌++◌}
use Rattle.std.specs.Prelude.{flat_map, codes, decimal}
use Rattle.image_info.specs.Map.{address_text}

-- a line: the offset of its first byte, the number of its bytes, and what else it says
pub record Line : Type 0 where
  pub start : ℕ
  pub len : ℕ
  pub rest : List ℕ

-- ADDRESS LENGTH and the rest, of an image whose first byte has the address `base`
abbrev pub line_text : ℕ → Line → List ℕ
line_text base l =
    address_text ((base + l.start) % 2 ^ 64) ++ (codes " " ++ (decimal l.len ++ (codes " "
    ++ (l.rest ++ codes "\n"))))

-- Lines that come after a range of n bytes from s on. None is empty. Each has the range of the one
-- before it, or begins where that ends. The last one ends at `end`.
abbrev pub GoOn : ℕ → ℕ → List Line → ℕ → Type 0
GoOn s n [] end = s + n ≡ end
GoOn s n (l ∷ ls) end =
    (0 < l.len) × (((l.start ≡ s) × (l.len ≡ n)) ⊎ (l.start ≡ s + n)) × GoOn l.start l.len ls end

-- A text is lines that share out the bytes of a file: the first line begins at the first byte, and
-- the last one ends at the end. So each byte is in a line, and two lines have the same bytes or no
-- byte in common.
pub record ShareOut (base file : ℕ) (text : List ℕ) : Type 0 where
  pub lines : List Line
  pub is : text ≡ flat_map (line_text base) lines
  pub all : GoOn 0 0 lines file
