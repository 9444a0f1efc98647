-- The directories of an image, and their paths. (This project's own.)
use Rattle.std.specs.Prelude.{◌≡◌, ℕ, ◌<◌, ◌≤◌, List, [], ◌++◌, length, get_or, slice_get, Some}
use Rattle.rom_tree.specs.Names.{path_below}
use Rattle.image_compare.specs.declared.directories.Directory.{Directory}

-- the path of the directory at an index; it is empty for the root, and if there is none
abbrev pub way_at : List (List ℕ) → ℕ → List ℕ
way_at ws i = get_or ws i []

-- the path of a directory is that of the directory that it is in, a slash, and its name
pub record IsDirectory (ws : List (List ℕ)) (i : ℕ) (d : Directory) : Type 0 where
  pub size : length (way_at ws i) ≡ d.len
  pub short : d.len ≤ 16384
  pub earlier : 0 < i → d.parent < i
  pub below : 0 < i → way_at ws i ≡ path_below (way_at ws d.parent) d.name.now

-- these are the paths of the directories
pub record AreWays (ds : List Directory) (ws : List (List ℕ)) : Type 0 where
  pub count : length ws ≡ length ds
  pub root : way_at ws 0 ≡ []
  pub each : (i : ℕ) (d : Directory) → slice_get ds i ≡ Some d → IsDirectory ws i d

-- one list is the front of another
abbrev pub IsFront : List ℕ → List ℕ → Type 0
IsFront front all = (rest : List ℕ) × (all ≡ front ++ rest)
