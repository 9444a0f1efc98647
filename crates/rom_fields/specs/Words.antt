-- `word_be`, `word_le`: the word of 32 bits at an offset, in big-endian and in little-endian order.
-- `with_word_be`, `with_word_le`: the bytes with one word set. `words_total`, `words_sum`: the sum
-- of the big-endian words from the front, and this sum modulo 2^32. `part_of`: some bytes from an
-- offset on. (Linux Documentation/filesystems/romfs.rst and cramfs.rst.)
--
-- romfs stores big-endian words. A cramfs image has the byte order of the machine that it is made
-- for.
use Rattle.std.specs.Prelude.{ℕ, ◌+◌, ◌%◌, ◌^◌, List, [], ◌∷◌, ◌++◌, take, drop}
use Rattle.byteorder.specs.Endian.{big_number, big_bytes, little_number, little_bytes}

-- the word whose first byte is at p, the highest byte first
unfoldable pub word_be : List ℕ → ℕ → ℕ
word_be b p = big_number 4 (drop p b)

-- the bytes with the word at p set to v, its highest byte first, and all others as they were
unfoldable pub with_word_be : List ℕ → ℕ → ℕ → List ℕ
with_word_be b p v = take p b ++ (big_bytes 4 v ++ drop (p + 4) b)

-- the word whose first byte is at p, the lowest byte first
unfoldable pub word_le : List ℕ → ℕ → ℕ
word_le b p = little_number 4 (drop p b)

-- the bytes with the word at p set to v, its lowest byte first, and all others as they were
unfoldable pub with_word_le : List ℕ → ℕ → ℕ → List ℕ
with_word_le b p v = take p b ++ (little_bytes 4 v ++ drop (p + 4) b)

-- the sum of the words from the front, not reduced; a rest of fewer than four bytes is not counted
abbrev pub words_total : List ℕ → ℕ
words_total [] = 0
words_total (a ∷ []) = 0
words_total (a ∷ b ∷ []) = 0
words_total (a ∷ b ∷ c ∷ []) = 0
words_total (a ∷ b ∷ c ∷ d ∷ rest) = big_number 4 (a ∷ b ∷ c ∷ d ∷ []) + words_total rest

-- this sum modulo 2^32, as in the checksums of romfs
unfoldable pub words_sum : List ℕ → ℕ
words_sum b = words_total b % 2 ^ 32

-- the len bytes from p
abbrev pub part_of : List ℕ → ℕ → ℕ → List ℕ
part_of b p len = take len (drop p b)
