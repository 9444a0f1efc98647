-- For the proofs: `Reads`: the meaning of a header of the layout in the bytes. `IsHeader`: a header
-- that can be written. (The fields are those of Linux Documentation/filesystems/romfs.rst.)
use Rattle.std.specs.Prelude.{◌≡◌, ℕ, ◌+◌, ◌%◌, ◌^◌, ◌<◌, ◌≤◌, List, length}
use Rattle.rom_fields.specs.Words.{word_be, words_sum, part_of}
use Rattle.romfs_format.specs.Record.{size_of, name_of, end_of}
use Rattle.rom_fields.specs.Parts.{HasAt}
use Rattle.manifest_tree.specs.Names.{bytes_of}
use Rattle.manifest_tree.specs.Lists.{IsName}
use Rattle.romfs_layout.specs.Layout.{Header, record_len}

-- the bytes have the fields of the header, and its data are behind it
pub record Reads (b : List ℕ) (contents : List (List ℕ)) (i : Header) : Type 0 where
  pub word : word_be b i.place ≡ i.next
  pub spec : word_be b (i.place + 4) ≡ i.spec
  pub size : size_of b i.place ≡ i.size
  pub name : name_of b i.place ≡ i.name
  pub ends : end_of b i.place ≡ i.place + record_len i.name
  pub sum : words_sum (part_of b i.place (record_len i.name)) ≡ 0
  pub content : HasAt b (i.place + record_len i.name) (bytes_of contents i.fill)

-- a header that can be written
pub record IsHeader (contents : List (List ℕ)) (i : Header) : Type 0 where
  pub next : i.next < 2 ^ 32
  pub spec : i.spec < 2 ^ 32
  pub size : i.size < 2 ^ 32
  pub name : IsName i.name
  pub content : length (bytes_of contents i.fill) ≡ i.size
  pub link : i.next % 8 ≡ 3 → (1 ≤ i.size) × (i.size ≤ 4095)
