-- `IsRomfsPlan`: the known facts of the plan of a romfs image. (This project's own.)
use Rattle.std.specs.Prelude.{◌≡◌, ℕ, ◌+◌, ◌^◌, ◌<◌, List, ◌∷◌, length, drop, get_or}
use Rattle.std.specs.List.{AllByRecursion as Every}
use Rattle.manifest_tree.specs.Names.{text}
use Rattle.rom_fields.specs.Padding.{pad}
use Rattle.manifest_layout.specs.Plans.{Planned}
use Rattle.manifest_tree.specs.Items.{Item, Body, super, record_of, table_of, text_of, contents_of}
use Rattle.manifest_tree.specs.Items.{section, SectionsRise}
use Rattle.manifest_tree.specs.Bodies.{item_at}
use Rattle.romfs_layout.specs.Composed.{written}
use Rattle.romfs_layout.specs.Layout.{root_at}
use Rattle.romfs_write.specs.Form.{full_size}

-- the contents of a section of this length: a header, a link's text, or the whole contents of a
-- file
abbrev pub IsBody : List Item → List ℕ → ℕ → Body → Type 0
IsBody is sizes len super = ⊥
IsBody is sizes len (record_of k) =
    (k < length is) × (length (item_at is k).name < 256) × (length (written (item_at is k)) ≡ len)
IsBody is sizes len (table_of k) = ⊥
IsBody is sizes len (text_of k) =
    (k < length is) × (t : List ℕ) × ((item_at is k).fill ≡ text t) × (length t ≡ len)
IsBody is sizes len (contents_of k) = (k < length sizes) × (get_or sizes k 0 ≡ len)

pub record IsRomfsPlan (p : Planned) : Type 0 where
  pub short : length p.volume < 256
  pub some : 0 < length p.items
  pub full : full_size p.items < 2 ^ 28 + 16
  pub end : p.image_len ≡ pad (full_size p.items) 1024
  pub sections : p.sections ≡ section 0 (root_at p.volume) super ∷ drop 1 p.sections
  pub rises : SectionsRise (root_at p.volume) (full_size p.items) (drop 1 p.sections)
  pub bodies : Every (λ s. IsBody p.items p.sizes s.len s.body) (drop 1 p.sections)
  pub sized : (file : ℕ) → get_or p.sizes file 0 < 2 ^ 32
