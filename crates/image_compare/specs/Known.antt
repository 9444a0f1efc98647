-- `AreDigests`: what is kept of an image while its files are hashed are its numbers, and the
-- digests of bytes of its files. (This project's own.)
use Rattle.std.specs.Prelude.{◌≡◌, IfSome}
use Rattle.std.specs.BTreeMap.{get}
use Rattle.sha2.specs.Sha256.{sha256}
use Rattle.rom_tree.specs.Image.{Image}
use Rattle.image_check.specs.Parts.{AreParts, tree_of_parts}
use Rattle.image_info.specs.declared.data.Data.{Data}
use Rattle.image_info.specs.Data.{data_bytes, data_cmp}
use Rattle.image_compare.specs.declared.known.Digests.{Digests}

pub record AreDigests (m : Image) (k : Digests) : Type 0 where
  pub parts : AreParts m.bytes k.parts
  pub tree : m.tree ≡ tree_of_parts m.bytes k.parts
  pub known : (d : Data)
      → IfSome (get data_cmp k.known d) (λ h. h ≡ sha256 (data_bytes m.bytes k.parts d))
