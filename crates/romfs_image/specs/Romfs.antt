-- `romfs_view`: a checked romfs image as an `Image`. `GivesRest`: a run has the rest of the file.
-- (This project's own.)
use Rattle.std.proofs.Common.{◌≡◌, ℕ, ◌≤◌, List, length, Some, refl}
use Rattle.std.specs.Prelude.{◌-◌, Option, MatchOption}
use Rattle.rom_tree.specs.declared.types.Run.{Run}
use Rattle.rom_tree.specs.Image.{Image}
use Rattle.romfs_format.specs.Made.{made, cursor_of, IsRomfs}
use Rattle.romfs_format.proofs.Trees.{coherent}
use Rattle.romfs_format.proofs.Contents.{made_devices, made_links, made_placed}

pub starts_at : (b : List ℕ) (r k d : ℕ) → cursor_of b r k d 0 ≡ Some 0
unfolding cursor_of
starts_at b r k d = refl

-- All bytes of the image, and the tree of the accessible bytes b. The root is at r, and there are k
-- records.
abbrev pub romfs_view : (bytes b : List ℕ) (r k : ℕ) → IsRomfs b r k → length b ≤ length bytes
    → Image
romfs_view bytes b r k s within = record {
  bytes = bytes;
  tree = made b r k r;
  cursor_index = cursor_of b r k;
  coherent = coherent s;
  starts = starts_at b r k;
  devices = made_devices s;
  links = made_links s;
  placed = made_placed bytes s within;
}

-- a run has the rest of the file
abbrev pub GivesRest : List ℕ → ℕ → Option Run → Type 0
GivesRest ps off r = MatchOption r (Unit {0}) (λ v. v.len ≡ length ps - off)
