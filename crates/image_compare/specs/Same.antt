-- `AreSame`: what is kept of two images while they are compared are their numbers, and which bytes
-- of their files are the same. (This project's own.)
use Rattle.std.specs.Prelude.{◌≡◌, IfSome}
use Rattle.std.specs.BTreeMap.{get}
use Rattle.std.specs.Ordering.{ordering_then}
use Rattle.std.specs.declared.cmp.Ordering.{Ordering}
use Rattle.std.specs.Str.{bytes_eq}
use Rattle.rom_tree.specs.Image.{Image}
use Rattle.image_check.specs.Parts.{AreParts, tree_of_parts}
use Rattle.image_info.specs.declared.data.Data.{Data}
use Rattle.image_info.specs.Data.{data_bytes, data_cmp}
use Rattle.image_compare.specs.declared.same.Same.{Same}

-- by where the bytes are in the old image, and then in the new one
abbrev pub both_cmp : Data × Data → Data × Data → Ordering
both_cmp a b = ordering_then (data_cmp a.0 b.0) (data_cmp a.1 b.1)

pub record AreSame (m n : Image) (k : Same) : Type 0 where
  pub old : AreParts m.bytes k.old_parts
  pub old_tree : m.tree ≡ tree_of_parts m.bytes k.old_parts
  pub new : AreParts n.bytes k.new_parts
  pub new_tree : n.tree ≡ tree_of_parts n.bytes k.new_parts
  pub known : (d : Data × Data) → IfSome (get both_cmp k.known d)
      (λ v. v ≡ bytes_eq (data_bytes m.bytes k.old_parts d.0) (data_bytes n.bytes k.new_parts d.1))
