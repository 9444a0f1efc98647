-- What changes of attributes mean: each change is of the file that has its path, by all names of
-- that file; of several changes of one file, the last counts. (This project's own.)
use Rattle.std.specs.Prelude.{◌≡◌, ℕ, ◌==◌, ◌&&◌, ◌||◌, Bool, false, List, [], ◌∷◌, ◌++◌}
use Rattle.std.specs.Prelude.{filter, find, Option, Some, None, string_bytes, unwrap_or, ⊤}
use Rattle.std.specs.List.{All}
use Rattle.std.specs.Option.{IsSome}
use Rattle.build_commands.specs.Inventory.{path_of}
use Rattle.build_commands.specs.Overlay.{has_path}
use Rattle.build_commands.specs.declared.inventory.NamedFile.{NamedFile}
use Rattle.build_commands.specs.declared.rights.Attributes.{Attributes}
use Rattle.build_commands.specs.declared.rights.Change.{Change}
use Rattle.build_commands.specs.declared.rights.RightsError.{RightsError}
use Rattle.build_commands.specs.declared.rights.RightsError.TheVariants as error

-- the file that has a path
abbrev pub file_at : List ℕ → List NamedFile → Option NamedFile
file_at path fs = find (has_path path) fs

-- two names of one file
abbrev pub are_linked : NamedFile → NamedFile → Bool
are_linked f g =
    (f.has_links && g.has_links)
    && ((f.inode.device == g.inode.device) && (f.inode.number == g.inode.number))

-- one name, or two names of one file
abbrev pub are_one : NamedFile → NamedFile → Bool
are_one f g = has_path (path_of f) g || are_linked f g

abbrev pub leads : Option NamedFile → NamedFile → Bool
leads None f = false
leads (Some g) f = are_one g f

-- the path of a change is that of a file, or of another name of it
abbrev pub concerns : List NamedFile → NamedFile → Change → Bool
concerns found f c = leads (file_at (string_bytes c.path) found) f

-- a file with other attributes; the mode can stay
abbrev pub with_attributes : Attributes → NamedFile → NamedFile
with_attributes a f = record f { mode = unwrap_or a.mode f.mode; uid = a.uid; gid = a.gid }

-- a file with another owner and group
abbrev pub owned : ℕ → ℕ → NamedFile → NamedFile
owned uid gid f = record f { uid = uid; gid = gid }

-- one change after the other
abbrev pub with_all : List Change → NamedFile → NamedFile
with_all [] f = f
with_all (c ∷ cs) f = with_all cs (with_attributes c.attributes f)

abbrev pub changed : List NamedFile → List Change → NamedFile → NamedFile
changed found cs f = with_all (filter (concerns found f) cs) f

abbrev pub HasFile : List NamedFile → Change → Type 0
HasFile found c = IsSome (file_at (string_bytes c.path) found)

-- the change of this line is the first whose path no file has
pub record IsMissing (found : List NamedFile) (changes : List Change) (number : ℕ) : Type 0 where
  pub before : List Change
  pub change : Change
  pub more : List Change
  pub is : changes ≡ before ++ change ∷ more
  pub line : change.line ≡ number
  pub there : All (HasFile found) before
  pub none : file_at (string_bytes change.path) found ≡ None

abbrev pub IsRefusal : List NamedFile → List Change → RightsError → Type 0
IsRefusal found changes error.OutOfMemory = ⊤
IsRefusal found changes (error.Missing line) = IsMissing found changes line
