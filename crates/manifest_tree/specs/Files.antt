-- `files`: the files of names, each once. `height`: the depth of the deepest name. `Placed`: a file
-- and the offset of its record. (This project's own.)
use Rattle.std.specs.Prelude.{ℕ, suc, max, List, [], ◌∷◌, ◌++◌}
use Rattle.manifest_tree.specs.Names.{Inode, Names, nothing, leaf, link, subdirectory}

-- the files, each once
abbrev pub files : Names → List Inode
files nothing = []
files (leaf name i after) = i ∷ files after
files (link name i after) = files after
files (subdirectory name i own after) = i ∷ files own ++ files after

-- the greatest number of names on the way to a file
abbrev pub height : Names → ℕ
height nothing = 0
height (leaf name i after) = max 1 (height after)
height (link name i after) = max 1 (height after)
height (subdirectory name i own after) = max (suc (height own)) (height after)

-- a file and the offset of its record
pub record Placed : Type 0 where
  pub inode : Inode
  pub place : ℕ

abbrev pub at_place : Inode → ℕ → Placed
at_place i place = record { inode = i; place = place }
