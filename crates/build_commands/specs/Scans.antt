-- `shown`: what a scan prints of an entry that a walk found. `IsScannable`: a tree that a manifest
-- can describe. `IsManifestOf`: a text is the manifest of a tree. (This project's own.)
use Rattle.std.specs.Prelude.{◌≡◌, ◌≢◌, ℕ, ◌<◌, ◌≤◌, Bool, true, List, [], length, map, drop, ⊤, Ok}
use Rattle.std.specs.Prelude.{if◌then◌else◌}
use Rattle.std.specs.List.{All}
use Rattle.std.specs.List.Sorted.{IsPermutation}
use Rattle.directory_walk.specs.Trees.{Tree, Nil, Leaf, Branch, Name, Top, AreInOrder, all_below}
use Rattle.image_manifest.specs.Describable.{IsLawfulName}
use Rattle.build_commands.specs.Scanned.{Entry, directory, file, lines_as}
use Rattle.manifest.specs.Grammar.{manifest_of}

-- the path of an entry in the image: its path without the one of the scanned directory, which has
-- `front` bytes
abbrev pub path_in : ℕ → Name Bool → List ℕ
path_in front n = drop front n.path

-- a directory, or a file whose source is the path by which it was found
abbrev pub shown : ℕ → Name Bool → Entry
shown front n = if n.known then directory (path_in front n) else file (path_in front n) n.path

abbrev pub all_shown : ℕ → List (Name Bool) → List Entry
all_shown front ns = map (λ (n : Name Bool). shown front n) ns

-- no entry of a directory has this name
abbrev pub IsNew : List ℕ → Tree Bool → Type 0
IsNew n Nil = ⊤
IsNew n (Leaf m known more) = (n ≢ m) × IsNew n more
IsNew n (Branch m known inner more) = (n ≢ m) × IsNew n more

-- each name is valid, no name occurs twice in a directory, and what is entered is a directory
abbrev pub HasLawfulNames : Tree Bool → Type 0
HasLawfulNames Nil = ⊤
HasLawfulNames (Leaf n known more) = IsLawfulName n × IsNew n more × HasLawfulNames more
HasLawfulNames (Branch n known inner more) =
    IsLawfulName n × IsNew n more × (known ≡ true) × HasLawfulNames inner × HasLawfulNames more

-- A tree below the directory of this path that a manifest can describe: its names are valid, and no
-- path in the image has more than 4,095 bytes.
pub record IsScannable (path : List ℕ) (t : Tree Bool) : Type 0 where
  pub bytes : All (λ b. b < 256) path
  pub names : HasLawfulNames t
  pub short : All (λ n. length (path_in (length path) n) ≤ 4095) (all_below path t)

-- A text is the manifest of what is below a directory: the manifest has exactly one line for each
-- entry, in the order of the bytes of their paths.
abbrev pub IsManifestOf : Top Bool → List ℕ → Type 0
IsManifestOf t text =
    (ns : List (Name Bool)) × IsPermutation (all_below t.path t.tree) ns × AreInOrder ns
    × (manifest_of text ≡ Ok (record {
      lines = lines_as 1 (all_shown (length t.path) ns);
      volume = [];
      volume_line = 0;
    }))
