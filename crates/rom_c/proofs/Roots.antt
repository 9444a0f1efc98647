-- The number of the root, and that of an image's numbers.
use Rattle.std.proofs.Common.{◌≡◌, ℕ, List, Some, eq-eqb, refl, ap, ◌∙◌}
use Rattle.rom_tree.specs.Tree.{Node, node, ino_of, node_at}
use Rattle.rom_tree.specs.declared.types.Limits.{Limits}
use Rattle.romfs_format.specs.Tree.{node_of, attributes_at}
use Rattle.romfs_format.specs.Made.{made}
use Rattle.romfs_image.specs.declared.image.Parts.{Parts as RomfsParts}
use Rattle.cramfs_format.specs.Tree.{node_of as cramfs_node_of, attributes_at as cramfs_attributes_at}
use Rattle.cramfs_format.specs.Made.{made as cramfs_made}
use Rattle.cramfs_image.specs.declared.image.Parts.{Parts as CramfsParts}
use Rattle.image_check.specs.Checked.{HasTree}
use Rattle.image_check.specs.Parts.{tree_of_parts}
use Rattle.image_check.specs.declared.any.Parts.TheVariants.{Romfs, Cramfs}
use Rattle.rom_c.proofs.Alone.{One}

pub romfs_root : (all : List ℕ) (n : RomfsParts) → ino_of (tree_of_parts all (Romfs n)) ≡ n.root
unfolding made node_of attributes_at
romfs_root all n = refl

pub cramfs_root : (all : List ℕ) (n : CramfsParts) → ino_of (tree_of_parts all (Cramfs n)) ≡ 64
unfolding cramfs_made cramfs_node_of cramfs_attributes_at
cramfs_root all n = refl

-- the root is the first of its nodes
first_node : (t : Node) → node_at t (ino_of t) ≡ Some t
unfolding node_at
first_node (node a b) = rw (eq-eqb a.ino a.ino refl) refl

-- the number of a tree's root names the root of the one tree
pub names_root : (all : List ℕ) (limits others : Limits) (t u : Node) (n : ℕ) → One → HasTree all limits t
    → HasTree all others u → n ≡ ino_of t → node_at u n ≡ Some u
names_root all limits others t u n one h k e =
    ap (node_at u) (e ∙ ap ino_of (one all limits others t u h k)) ∙ first_node u
