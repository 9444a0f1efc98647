-- The description of a checked image, as bytes and as an array of C. Its words have 32 bits, and
-- the least byte comes first. (This project's own.)
use Rattle.std.specs.Prelude.{ℕ, ◌/◌, ◌%◌, List, [], ◌∷◌, ◌++◌, codes, decimal}
use Rattle.image_info.specs.declared.numbers.Numbers.{Numbers}

-- a word
unfoldable pub word : ℕ → List ℕ
word n = n % 256 ∷ n / 256 % 256 ∷ n / 65536 % 256 ∷ n / 16777216 % 256 ∷ []

-- a byte and a word in an array of C
unfoldable pub byte_text : ℕ → List ℕ
byte_text b = codes " " ++ (decimal b ++ codes ",")

unfoldable pub word_text : ℕ → List ℕ
word_text n =
    byte_text (n % 256) ++ (byte_text (n / 256 % 256) ++ (byte_text (n / 65536 % 256)
    ++ byte_text (n / 16777216 % 256)))

-- The words of a description after its first eight bytes: its version, the format, the number of
-- bytes in two halves, the number of accessible bytes, which are all of them, the root, the
-- references and the depth, and two zeros.
unfoldable pub words_by : (ℕ → List ℕ) → Numbers → List ℕ
words_by f n =
    f 1 ++ (f n.format ++ (f n.size ++ (f 0 ++ (f n.size ++ (f n.root ++ (f n.references
    ++ (f n.depth ++ (f 0 ++ f 0))))))))

-- the description: `romtool`, a zero, and its words
unfoldable pub description : Numbers → List ℕ
description n = codes "romtool" ++ (0 ∷ [] ++ words_by word n)

-- the same as an array of C
unfoldable pub array_text : Numbers → List ℕ
array_text n =
    codes "static const unsigned char rom_numbers[48] = {\n 114, 111, 109, 116, 111, 111, 108, 0,"
    ++ (words_by word_text n ++ codes "\n};\n")
