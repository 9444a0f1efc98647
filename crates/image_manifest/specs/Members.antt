-- `AreMembers`: the names of an image in preorder, each with its path, its node's number and the
-- index of the first name of that node; no path is too long. `has_long_path`: a path has more than
-- 4,095 bytes, so no manifest accepts it. (This project's own.)
use Rattle.std.specs.Prelude.{◌≡◌, ℕ, suc, ◌==◌, Bool, false, nat_lt, List, [], ◌∷◌, ◌++◌, map}
use Rattle.std.specs.Prelude.{length}
use Rattle.std.specs.Prelude.{Option, Some, None, option_map, if◌then◌else◌}
use Rattle.std.specs.List.{list_any}
use Rattle.rom_tree.specs.Tree.{Node, ino_of, is_directory}
use Rattle.rom_tree.specs.Image.{Image}
use Rattle.rom_tree.specs.Names.{Name, names}
use Rattle.image_manifest.specs.Composed.{path_by, ways_of}
use Rattle.image_manifest.specs.declared.naming.Member.{Member}

-- what a member has of a name: its node's number, and the index of the first name of that node
pub record Known : Type 0 where
  pub number : ℕ
  pub first : Option ℕ

-- the index of the first of these names whose node has this number
abbrev pub place_of : ℕ → List Name → Option ℕ
place_of number [] = None
place_of number (n ∷ ns) =
    if ino_of n.node == number then Some 0 else option_map suc (place_of number ns)

-- the index of the first name of a node among others; a directory has none
abbrev pub first_behind : List Name → Node → Option ℕ
first_behind before x = if is_directory x then None else place_of (ino_of x) before

-- what a member has of a name behind others
abbrev pub known_behind : List Name → Name → Known
known_behind before n = record {
  number = ino_of n.node;
  first = first_behind before n.node;
}

-- the same for each of some names, behind others
abbrev pub all_behind : List Name → List Name → List Known
all_behind before [] = []
all_behind before (n ∷ ns) = known_behind before n ∷ all_behind (before ++ n ∷ []) ns

unfoldable pub members_of : Node → List Known
members_of t = all_behind [] (names t)

-- the number and the index that a member of the code has
abbrev pub known_of : Member → Known
known_of m = record { number = m.node.0; first = m.first }

-- no manifest accepts this name
abbrev pub is_long : Name → Bool
is_long n = nat_lt 4095 (length n.path)

-- some path has more than 4,095 bytes
abbrev pub has_long_path : Node → Bool
has_long_path t = list_any is_long (names t)

-- These are the members of the image. Their paths are those of its names, and none is too long.
pub record AreMembers (m : Image) (ms : List Member) : Type 0 where
  pub known : map known_of ms ≡ members_of m.tree
  pub paths : map path_by (ways_of ms) ≡ map (λ n. n.path) (names m.tree)
  pub short : has_long_path m.tree ≡ false
