-- The parts of a planned image. `Item`: a romfs header or a cramfs inode, with its file's bytes.
-- `Section`: bytes that are together. `in_order`, `SectionsRise`: sections are one after the other,
-- none empty. (This project's own.)
use Rattle.std.specs.Prelude.{ℕ, ◌+◌, ◌==◌, ◌<◌, ◌≤◌, if◌then◌else◌, nat_lt, List, [], ◌∷◌}
use Rattle.manifest_tree.specs.Names.{Fill, no_bytes, text, source}

-- One record of an image, with its file's bytes: its offset, its first three words, and its name;
-- the offset of its table of block pointers, or 0 if it has none; the offset of its bytes, or 0 if
-- there are none, their number, and which bytes they are.
pub record Item : Type 0 where
  pub place : ℕ
  pub first : ℕ
  pub second : ℕ
  pub third : ℕ
  pub name : List ℕ
  pub table : ℕ
  pub start : ℕ
  pub len : ℕ
  pub fill : Fill

-- what a section holds: the superblock; the record, the table or the text of an item by its index;
-- or the contents of a source by its index
pub data Body : Type 0 where
  super : Body
  record_of : ℕ → Body
  table_of : ℕ → Body
  text_of : ℕ → Body
  contents_of : ℕ → Body

-- bytes that are together, and what they are
pub record Section : Type 0 where
  pub place : ℕ
  pub len : ℕ
  pub body : Body

abbrev pub section : ℕ → ℕ → Body → Section
section place len body = record { place = place; len = len; body = body }

-- the section with the bytes of the item at an index, if it has any
abbrev pub fill_section : ℕ → ℕ → ℕ → Fill → List Section
fill_section index start len no_bytes = []
fill_section index start len (text t) = section start len (text_of index) ∷ []
fill_section index start len (source f) = section start len (contents_of f) ∷ []

abbrev pub bytes_section : ℕ → Item → List Section
bytes_section index i = if i.len == 0 then [] else fill_section index i.start i.len i.fill

-- one more section, before the first that is behind it
abbrev pub put_section : Section → List Section → List Section
put_section s [] = s ∷ []
put_section s (t ∷ ts) = if nat_lt s.place t.place then s ∷ t ∷ ts else t ∷ put_section s ts

-- in the order of their offsets
abbrev pub in_order : List Section → List Section
in_order [] = []
in_order (s ∷ ss) = put_section s (in_order ss)

-- the sections are one after the other, none before `at`, none is empty, and the last ends at `end`
-- or before
abbrev pub SectionsRise : ℕ → ℕ → List Section → Type 0
SectionsRise at end [] = at ≤ end
SectionsRise at end (s ∷ ss) = (at ≤ s.place) × (0 < s.len) × SectionsRise (s.place + s.len) end ss
