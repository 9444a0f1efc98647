-- `names`: the names of a tree in preorder, each with its path and its node. `listed`: their lines.
-- (This project's own.)
use Rattle.std.specs.Prelude.{ℕ, List, [], ◌∷◌, ◌++◌, flat_map}
use Rattle.rom_fields.specs.Texts.{escaped}
use Rattle.rom_tree.specs.Tree.{Node, node, Body, directory, Entries, no_entries, entry}
use Rattle.rom_tree.specs.Listing.{line}

-- a path, its last name (empty for the root), and the node that it leads to
pub record Name : Type 0 where
  pub path : List ℕ
  pub last : List ℕ
  pub node : Node

abbrev pub named : List ℕ → List ℕ → Node → Name
named p name x = record { path = p; last = name; node = x }

-- the path of a name in the directory at `path`, which is empty for the root
abbrev pub path_below : List ℕ → List ℕ → List ℕ
path_below path name = path ++ 47 ∷ name

-- the names below the node at a path
unfoldable mutual
  pub node_names : List ℕ → Node → List Name
  node_names path (node a body) = body_names path body

  pub body_names : List ℕ → Body → List Name
  body_names path (directory es) = entries_names path es
  body_names path _ = []

  pub entries_names : List ℕ → Entries → List Name
  entries_names path no_entries = []
  entries_names path (entry name x es) =
      named (path_below path name) name x
      ∷ (node_names (path_below path name) x ++ entries_names path es)

-- the root's name, whose path is a slash, and those below it
unfoldable pub names : Node → List Name
names t = named (47 ∷ []) [] t ∷ node_names [] t

-- the line that a list has for a name
abbrev pub name_line : List ℕ → Name → List ℕ
name_line b n = line b (escaped n.path) n.node

-- the lines of some names
unfoldable pub listed : List ℕ → List Name → List ℕ
listed b ns = flat_map (name_line b) ns
