-- `IsByPaths`: a tree that paths describe: no name has a slash (`has_slashed_name`), and each
-- directory has one path (`HaveOnePath`). (This project's own.)
use Rattle.std.specs.Prelude.{◌≡◌, ℕ, ◌==◌, Bool, true, false, List, Some}
use Rattle.std.specs.List.{list_any}
use Rattle.manifest_tree.specs.Shape.{node_under}
use Rattle.rom_tree.specs.Names.{names}
use Rattle.rom_tree.specs.Tree.{Node, ino_of, is_directory}

-- a name has a slash
abbrev pub has_slash : List ℕ → Bool
has_slash name = list_any (λ b. b == 47) name

-- some name of the tree has a slash
abbrev pub has_slashed_name : Node → Bool
has_slashed_name t = list_any (λ n. has_slash n.last) (names t)

-- each directory has one path: two lists of names that lead to one directory are the same list
abbrev pub HaveOnePath : Node → Type 0
HaveOnePath t = (p q : List (List ℕ)) (x y : Node) → node_under p t ≡ Some x
    → node_under q t ≡ Some y → is_directory x ≡ true → ino_of x ≡ ino_of y → p ≡ q

-- A tree that paths describe: no name has a slash, and each directory has one path.
pub record IsByPaths (t : Node) : Type 0 where
  pub names : has_slashed_name t ≡ false
  pub directories : HaveOnePath t
