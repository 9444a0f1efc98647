-- Files laid over one another: of each path, the last one counts. `AreLaid`: files of which exactly
-- the last of each path is left, in the order of the bytes of their paths. `IsMixed`: a directory
-- and another kind of file have one path. (This project's own.)
use Rattle.std.specs.Prelude.{◌≡◌, ◌≢◌, ℕ, ◌+◌, ◌<◌, Bool, true, false, List, [], ◌∷◌, ◌++◌}
use Rattle.std.specs.Prelude.{filter, length, slice_index_or, ⊤}
use Rattle.std.specs.Cmp.Lexicographic.{slice_cmp}
use Rattle.std.specs.List.Sorted.{IsSortedByKey}
use Rattle.std.specs.Ordering.{nat_cmp}
use Rattle.std.specs.declared.cmp.Ordering.TheVariants.{Less}
use Rattle.std.specs.Str.{bytes_eq}
use Rattle.build_commands.specs.Inventory.{path_of}
use Rattle.build_commands.specs.declared.inventory.FileKind.{FileKind}
use Rattle.build_commands.specs.declared.inventory.FileKind.TheVariants as kind
use Rattle.build_commands.specs.declared.inventory.NamedFile.{NamedFile}
use Rattle.build_commands.specs.declared.overlay.OverlayError.{OverlayError}
use Rattle.build_commands.specs.declared.overlay.OverlayError.TheVariants as error

abbrev pub has_path : List ℕ → NamedFile → Bool
has_path path f = bytes_eq (path_of f) path

abbrev pub is_directory_kind : FileKind → Bool
is_directory_kind kind.Directory = true
is_directory_kind _ = false

abbrev pub is_directory : NamedFile → Bool
is_directory f = is_directory_kind f.kind

-- the files of a path, in their order
abbrev pub named : List ℕ → List NamedFile → List NamedFile
named path fs = filter (has_path path) fs

-- the last one, if there is one
abbrev pub last_of : List NamedFile → List NamedFile
last_of [] = []
last_of (f ∷ []) = f ∷ []
last_of (f ∷ g ∷ fs) = last_of (g ∷ fs)

abbrev pub AreSorted : List NamedFile → Type 0
AreSorted fs = IsSortedByKey path_of (slice_cmp nat_cmp) fs

-- no two neighbours have one path
abbrev pub AreApart : List NamedFile → Type 0
AreApart fs =
    (k : ℕ) (d : NamedFile) → k + 1 < length fs
    → bytes_eq (path_of (slice_index_or fs k d)) (path_of (slice_index_or fs (k + 1) d)) ≡ false

-- a path comes before that of the first file, if there is one
abbrev pub IsBefore : List ℕ → List NamedFile → Type 0
IsBefore path [] = ⊤
IsBefore path (f ∷ fs) = slice_cmp nat_cmp path (path_of f) ≡ Less

-- each path comes before the next one
abbrev pub AreInOrder : List NamedFile → Type 0
AreInOrder [] = ⊤
AreInOrder (f ∷ fs) = IsBefore (path_of f) fs × AreInOrder fs

-- of two neighbours among the files of a path, the first of which is g, this is the second, and one
-- of them is a directory
pub record IsMixed (found : List NamedFile) (f : NamedFile) : Type 0 where
  pub before : List NamedFile
  pub g : NamedFile
  pub after : List NamedFile
  pub neighbours : named (path_of f) found ≡ before ++ g ∷ f ∷ after
  pub kinds : is_directory g ≢ is_directory f

-- exactly the last file of each path is left, and no path has both a directory and another file
pub record AreLaid (found laid : List NamedFile) : Type 0 where
  pub order : AreInOrder laid
  pub last : (path : List ℕ) → named path laid ≡ last_of (named path found)
  pub unmixed : (f : NamedFile) → IsMixed found f → ⊥

-- memory can be refused at any time
abbrev pub IsRefused : List NamedFile → OverlayError → Type 0
IsRefused found error.OutOfMemory = ⊤
IsRefused found (error.Kinds f) = IsMixed found f
