-- `map_text`: a line for each run of each regular file, in the order of the list. (This project's
-- own.)
use Rattle.std.specs.Prelude.{ℕ, ◌+◌, ◌/◌, ◌%◌, List, [], ◌∷◌, ◌++◌, decimal, nat_lt, if◌then◌else◌}
use Rattle.std.specs.List.{flat_map}
use Rattle.rom_fields.specs.Texts.{escaped}
use Rattle.rom_tree.specs.Tree.{Node, Body, body_of, regular}
use Rattle.rom_tree.specs.Names.{Name, names}
use Rattle.image_info.specs.Runs.{Piece, runs}

-- the lower-case hexadecimal digit of a number below 16
abbrev pub digit : ℕ → ℕ
digit n = if nat_lt n 10 then 48 + n else 87 + n

-- the last eight hexadecimal digits, with leading zeros
abbrev pub eight_digits : ℕ → List ℕ
eight_digits n =
    digit (n / 268435456 % 16) ∷ digit (n / 16777216 % 16) ∷ digit (n / 1048576 % 16)
    ∷ digit (n / 65536 % 16)
    ∷ digit (n / 4096 % 16) ∷ digit (n / 256 % 16) ∷ digit (n / 16 % 16) ∷ digit (n % 16) ∷ []

-- `0x` and eight digits, or sixteen digits from 2^32 on
unfoldable pub address_text : ℕ → List ℕ
address_text a =
    48 ∷ 120 ∷ [] ++ (if nat_lt a 4294967296 then eight_digits a
    else eight_digits (a / 4294967296) ++ eight_digits a)

-- ADDRESS LENGTH OFFSET PATH, of an image whose first byte has the address `base`
unfoldable pub run_line : ℕ → List ℕ → Piece → List ℕ
run_line base path r =
    address_text (base + r.place) ++ (32 ∷ [] ++ (decimal r.count ++ (32 ∷ [] ++ (decimal r.offset
    ++ (32 ∷ [] ++ (path ++ 10 ∷ []))))))

-- `- 0 0 PATH`
abbrev pub empty_line : List ℕ → List ℕ
empty_line path = 45 ∷ 32 ∷ 48 ∷ 32 ∷ 48 ∷ 32 ∷ [] ++ (path ++ 10 ∷ [])

abbrev pub run_lines : ℕ → List ℕ → List Piece → List ℕ
run_lines base path rs = flat_map (λ r. run_line base path r) rs

-- the lines of a regular file with these offsets of its bytes
abbrev pub places_lines : ℕ → List ℕ → List ℕ → List ℕ
places_lines base path [] = empty_line path
places_lines base path (p ∷ ps) = run_lines base path (runs (p ∷ ps))

-- only regular files have lines
abbrev pub body_lines : ℕ → List ℕ → Body → List ℕ
body_lines base path (regular ps) = places_lines base path ps
body_lines base path _ = []

abbrev pub name_lines : ℕ → Name → List ℕ
name_lines base n = body_lines base (escaped n.path) (body_of n.node)

-- the lines of all names, in preorder
unfoldable pub map_text : ℕ → Node → List ℕ
map_text base t = flat_map (λ n. name_lines base n) (names t)
