-- `IsCramfsPlan`: the known facts of the plan of a cramfs image. (This project's own.)
use Rattle.std.specs.Prelude.{◌≡◌, ℕ, ◌+◌, ◌*◌, ◌^◌, ◌<◌, ◌≤◌, List, ◌∷◌, length, drop, get_or}
use Rattle.std.specs.List.{AllByRecursion as Every}
use Rattle.cramfs_format.specs.Inode.{block_count}
use Rattle.cramfs_layout.specs.Layout.{entry_len}
use Rattle.manifest_layout.specs.Plans.{Planned}
use Rattle.manifest_tree.specs.Bodies.{item_at}
use Rattle.manifest_tree.specs.Items.{Item, Body, super, record_of, table_of, text_of, contents_of}
use Rattle.manifest_tree.specs.Items.{section, SectionsRise}
use Rattle.manifest_tree.specs.Names.{text}

-- the contents of a section of this length: an inode, a table of pointers to blocks below 2^28, a
-- link's text, or the whole contents of a file
abbrev pub IsBody : List Item → List ℕ → ℕ → Body → Type 0
IsBody is sizes len super = ⊥
IsBody is sizes len (record_of k) =
    (k < length is) × (length (item_at is k).name ≤ 252) × (entry_len (item_at is k).name ≡ len)
IsBody is sizes len (table_of k) =
    (k < length is) × (4 * block_count (item_at is k).len ≡ len)
    × ((item_at is k).start + (item_at is k).len ≤ 2 ^ 28)
IsBody is sizes len (text_of k) =
    (k < length is) × (t : List ℕ) × ((item_at is k).fill ≡ text t) × (length t ≡ len)
IsBody is sizes len (contents_of k) = (k < length sizes) × (get_or sizes k 0 ≡ len)

pub record IsCramfsPlan (p : Planned) : Type 0 where
  pub short : length p.volume ≤ 16
  pub some : 0 < length p.items
  pub few : length p.items ≤ 2 ^ 20
  pub room : p.image_len ≤ 2 ^ 28
  pub sections : p.sections ≡ section 0 76 super ∷ drop 1 p.sections
  pub rises : SectionsRise 76 p.image_len (drop 1 p.sections)
  pub bodies : Every (λ s. IsBody p.items p.sizes s.len s.body) (drop 1 p.sections)
  pub sized : (file : ℕ) → get_or p.sizes file 0 < 2 ^ 32
