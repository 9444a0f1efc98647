-- `Describes`: 48 bytes are the description of an image. `IsDescription`: they are one of an image
-- with so many bytes. (The description is this project's own.)
use Rattle.std.specs.Prelude.{◌≡◌, ℕ, ◌+◌, ◌*◌, List, [], ◌∷◌, length, take, slice_index}
use Rattle.rom_c.specs.declared.image.RomtoolImage.{RomtoolImage}

-- the word at k, whose first byte is the least
abbrev pub word_at : List ℕ → ℕ → ℕ
word_at b k =
    slice_index b k + 256 * slice_index b (k + 1)
    + (65536 * slice_index b (k + 2) + 16777216 * slice_index b (k + 3))

-- `romtool` and a zero
abbrev pub magic : List ℕ
magic = 114 ∷ 111 ∷ 109 ∷ 116 ∷ 111 ∷ 111 ∷ 108 ∷ 0 ∷ []

-- the magic, version 1, and the words that this version does not use
pub record IsDescription (b : List ℕ) (len : ℕ) : Type 0 where
  pub begins : take 8 b ≡ magic
  pub version : word_at b 8 ≡ 1
  pub size : word_at b 16 + 4294967296 * word_at b 20 ≡ len
  pub unused : (word_at b 40 ≡ 0) × (word_at b 44 ≡ 0)

-- the numbers of an image
pub record HasNumbers (b : List ℕ) (i : RomtoolImage) : Type 0 where
  pub format : word_at b 12 ≡ i.format
  pub accessible : word_at b 24 ≡ i.accessible
  pub root : word_at b 28 ≡ i.root
  pub references : word_at b 32 ≡ i.references
  pub depth : word_at b 36 ≡ i.depth

-- the description of an image
abbrev pub Describes : List ℕ → RomtoolImage → Type 0
Describes b i = IsDescription b (length i.bytes.now) × HasNumbers b i
