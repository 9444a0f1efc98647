-- The example image `hello`. Its layout follows Linux Documentation/filesystems/romfs.rst.
use Rattle.std.specs.Prelude.{ℕ, ◌+◌, ◌/◌, ◌%◌, ◌^◌, List, [], ◌∷◌, ◌++◌, codes, replicate}
use Rattle.std.specs.List.{flat_map}
use Rattle.rom_fields.specs.Words.{with_word_be}

-- the bytes, with words put one after the other from offset p on
abbrev pub with_words : List ℕ → ℕ → List ℕ → List ℕ
with_words b p [] = b
with_words b p (w ∷ ws) = with_words (with_word_be b p w) (p + 4) ws

-- the bytes of a word, the most significant one first
abbrev pub word_bytes : ℕ → List ℕ
word_bytes w = w / 2 ^ 24 ∷ w / 2 ^ 16 % 256 ∷ w / 2 ^ 8 % 256 ∷ w % 256 ∷ []

-- the superblock, the root `.`, the hard link `..` to it, and the file `a` with its bytes; a header
-- has next, spec, size and checksum
unfoldable pub hello_image : List ℕ
hello_image =
    codes "-rom1fs-" ++ flat_map word_bytes (144 ∷ 3384914026 ∷ []) ++ replicate 16 0
    ++ flat_map word_bytes (73 ∷ 32 ∷ 0 ∷ 3523215255 ∷ []) ++ codes "." ++ replicate 15 0
    ++ flat_map word_bytes (96 ∷ 32 ∷ 0 ∷ 3520200576 ∷ []) ++ codes ".." ++ replicate 14 0
    ++ flat_map word_bytes (2 ∷ 0 ∷ 5 ∷ 2667577337 ∷ []) ++ codes "a" ++ replicate 15 0
    ++ codes "hello" ++ replicate 11 0
