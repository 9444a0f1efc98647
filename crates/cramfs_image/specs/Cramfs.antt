-- `cramfs_view`: a checked cramfs image as an `Image`. `GivesBlock`: a run ends with its block, or
-- with the file. (This project's own.)
use Rattle.std.proofs.Common.{◌≡◌, ℕ, ◌≤◌, List, length, Some, refl}
use Rattle.std.specs.Prelude.{◌-◌, ◌%◌, min, Option, MatchOption}
use Rattle.rom_tree.specs.declared.types.Run.{Run}
use Rattle.rom_tree.specs.Image.{Image}
use Rattle.cramfs_format.specs.declared.order.Order.{Order}
use Rattle.cramfs_format.specs.Refers.{root_place}
use Rattle.cramfs_format.specs.Made.{made, cursor_of, IsCramfs}
use Rattle.cramfs_format.proofs.Trees.{coherent}
use Rattle.cramfs_format.proofs.Contents.{made_devices, made_links, made_placed}

pub starts_at : (o : Order) (b : List ℕ) (k d : ℕ) → cursor_of o b k d 0 ≡ Some 0
unfolding cursor_of
starts_at o b k d = refl

-- All bytes of the image, and the tree of the accessible bytes b. There are k records.
abbrev pub cramfs_view : (o : Order) (bytes b : List ℕ) (k : ℕ) → IsCramfs o b k
    → length b ≤ length bytes → Image
cramfs_view o bytes b k s within = record {
  bytes = bytes;
  tree = made o b k root_place;
  cursor_index = cursor_of o b k;
  coherent = coherent s;
  starts = starts_at o b k;
  devices = made_devices s;
  links = made_links s;
  placed = made_placed bytes s within;
}

-- a run ends with its block of 4096 bytes, or with the file
abbrev pub GivesBlock : List ℕ → ℕ → Option Run → Type 0
GivesBlock ps off r =
    MatchOption r (Unit {0}) (λ v. v.len ≡ min (length ps - off) (4096 - off % 4096))
