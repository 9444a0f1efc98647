-- The byte order of a cramfs image, little or big: that of the machine that it is made for. `word`:
-- the word at an offset in that order. `with_word`: the bytes with one word set. `packed`: a word
-- of two fields. `first_field`, `field_after`: its fields. (Linux include/uapi/linux/cramfs_fs.h,
-- and bit fields as the compilers of such machines order them.)
use Rattle.std.specs.Prelude.{ℕ, ◌+◌, ◌-◌, ◌*◌, ◌/◌, ◌%◌, ◌^◌, Bool, true, false, List}
use Rattle.rom_fields.specs.Words.{word_be, word_le, with_word_be, with_word_le}
use Rattle.cramfs_format.specs.declared.order.Order.{Order}
use Rattle.cramfs_format.specs.declared.order.Order.TheVariants.{Little, Big}

-- the word whose first byte is at p
unfoldable pub word : Order → List ℕ → ℕ → ℕ
word Little b p = word_le b p
word Big b p = word_be b p

-- the bytes b, with this word in the four bytes from p on
unfoldable pub with_word : Order → List ℕ → ℕ → ℕ → List ℕ
with_word Little b p v = with_word_le b p v
with_word Big b p v = with_word_be b p v

-- the first field of a word w, of `bits` bits: the low bits of a little-endian word, the high bits
-- of a big-endian one
abbrev pub first_field : Order → ℕ → ℕ → ℕ
first_field Little bits w = w % 2 ^ bits
first_field Big bits w = w / 2 ^ (32 - bits)

-- the field after a first field of `bits` bits
abbrev pub field_after : Order → ℕ → ℕ → ℕ
field_after Little bits w = w / 2 ^ bits
field_after Big bits w = w % 2 ^ (32 - bits)

-- a word of two fields, the first of `bits` bits
abbrev pub packed : Order → ℕ → ℕ → ℕ → ℕ
packed Little bits first rest = first + rest * 2 ^ bits
packed Big bits first rest = first * 2 ^ (32 - bits) + rest

abbrev pub is_big : Order → Bool
is_big Little = false
is_big Big = true
