-- For the proofs: `IsKnown`: a member of the code (except the root) agrees with the member at the
-- same index of the tree that is extracted. (This project's own.)
use Rattle.std.specs.Prelude.{◌≡◌, ℕ, Some}
use Rattle.rom_tree.specs.Image.{Image, image_node, contents_of}
use Rattle.rom_tree.specs.Tree.{Node, kind_of}
use Rattle.image_manifest.specs.declared.naming.Member.{Member}
use Rattle.image_manifest.specs.ExtractedMembers.{made_of, members_in}
use Rattle.image_manifest.specs.declared.giving.Giving.{Giving}
use Rattle.tree_extract.specs.Members.{kind_at, bytes_at}

pub record IsKnown (g : Giving) (m : Image) (i : ℕ) (x : Member) : Type 0 where
  pub node : Node
  pub at : image_node m x.node.0 ≡ Some node
  pub kind : kind_at (members_in g m) i ≡ made_of (kind_of node) x.first
  pub bytes : bytes_at (members_in g m) i ≡ contents_of m.bytes node
