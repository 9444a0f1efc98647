-- `members_in`: the names of an image as the members of a tree that is extracted, with the rights
-- that they get. `made_in`: the same, of which this is made. `stat_at`: the attributes of the node
-- of a name. (This project's own.)
use Rattle.std.specs.Prelude.{ℕ, List, [], ◌∷◌, ◌++◌, get_or, Option, Some, None}
use Rattle.rom_tree.specs.declared.types.Kind.{Kind as NodeKind}
use Rattle.rom_tree.specs.declared.types.Kind.TheVariants as node
use Rattle.rom_tree.specs.declared.types.Stat.{Stat}
use Rattle.rom_tree.specs.Image.{Image, contents_of, stat_of}
use Rattle.rom_tree.specs.Names.{Name, named, names, node_names}
use Rattle.rom_tree.specs.Tree.{Node, kind_of}
use Rattle.image_manifest.specs.Members.{first_behind}
use Rattle.image_manifest.specs.Rights.{given_rights}
use Rattle.image_manifest.specs.declared.giving.Giving.{Giving}
use Rattle.tree_extract.specs.declared.tree.Kind.{Kind}
use Rattle.tree_extract.specs.declared.tree.Kind.TheVariants.{Directory, File, Further, Symlink}
use Rattle.tree_extract.specs.declared.tree.Kind.TheVariants.{Nothing}
use Rattle.tree_extract.specs.Choices.{with_kinds}
use Rattle.tree_extract.specs.Members.{Member}

-- what is made of a regular file, by the index of an earlier name of it
abbrev pub file_by : Option ℕ → Kind
file_by None = File
file_by (Some first) = Further first

-- what is made of a node; nothing of a device, a pipe or a socket
abbrev pub made_of : NodeKind → Option ℕ → Kind
made_of node.Directory first = Directory
made_of node.Regular first = file_by first
made_of node.Symlink first = Symlink
made_of node.Block first = Nothing
made_of node.Character first = Nothing
made_of node.Socket first = Nothing
made_of node.Fifo first = Nothing

-- what is made of a name, behind others
abbrev pub member_behind : Giving → Image → List Name → Name → Member
member_behind g m before n = record {
  path = n.path;
  kind = made_of (kind_of n.node) (first_behind before n.node);
  bytes = contents_of m.bytes n.node;
  rights = given_rights g (stat_of n.node);
}

abbrev pub members_behind : Giving → Image → List Name → List Name → List Member
members_behind g m before [] = []
members_behind g m before (n ∷ ns) =
    member_behind g m before n ∷ members_behind g m (before ++ n ∷ []) ns

-- the root's name
abbrev pub root_of : Image → Name
root_of m = named (47 ∷ []) [] m.tree

-- The names of an image in preorder. The root's is the directory that is extracted into, which
-- exists.
unfoldable pub members_in : Giving → Image → List Member
members_in g m =
    record {
      path = 47 ∷ [];
      kind = Nothing;
      bytes = [];
      rights = given_rights g (stat_of m.tree);
    }
    ∷ members_behind g m (root_of m ∷ []) (node_names [] m.tree)

abbrev pub made_in : Giving → Image → List Kind → List Member
made_in g m ks = with_kinds (members_in g m) ks

-- the node of the name at an index, and its attributes
abbrev pub node_at : Image → ℕ → Node
node_at m i = (get_or (names m.tree) i (root_of m)).node

abbrev pub stat_at : Image → ℕ → Stat
stat_at m i = stat_of (node_at m i)
