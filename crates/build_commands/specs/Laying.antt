-- What a list and a table of devices make of the files that were found. (This project's own; tables
-- are those of Buildroot's manual, "Makedev syntax documentation".)
use Rattle.std.specs.Prelude.{◌≡◌, ◌⊎◌, ⊤, ℕ, ◌&&◌, Bool, not, List, ◌++◌, filter, map, Some}
use Rattle.std.specs.Prelude.{string_bytes}
use Rattle.std.specs.List.Sorted.{IsSortedByKey, IsStableByKey}
use Rattle.std.specs.Ordering.{nat_cmp}
use Rattle.manifest.specs.FaultNumbers.{BAD_TARGET}
use Rattle.build_commands.specs.Devices as list
use Rattle.build_commands.specs.DeviceTable as table
use Rattle.build_commands.specs.Fitting.{is_directory_in}
use Rattle.build_commands.specs.Inventory.{path_of}
use Rattle.build_commands.specs.Lists.{Setting, setting_of}
use Rattle.build_commands.specs.Overlay.{AreLaid, IsMixed, is_directory}
use Rattle.build_commands.specs.Rights.{IsMissing, changed, file_at}
use Rattle.build_commands.specs.declared.inventory.NamedFile.{NamedFile}
use Rattle.build_commands.specs.declared.laying.LayError.{LayError}
use Rattle.build_commands.specs.declared.laying.LayError.TheVariants as error
use Rattle.build_commands.specs.declared.listing.BadLine.{BadLine}
use Rattle.build_commands.specs.declared.listing.ListError.{ListError}
use Rattle.build_commands.specs.declared.listing.ListError.TheVariants as listed
use Rattle.build_commands.specs.declared.listing.Listing.{Listing}
use Rattle.build_commands.specs.declared.listing.Why.TheVariants as why
use Rattle.build_commands.specs.declared.overlay.OverlayError.{OverlayError}
use Rattle.build_commands.specs.declared.overlay.OverlayError.TheVariants as overlay
use Rattle.build_commands.specs.declared.rights.Change.{Change}
use Rattle.build_commands.specs.declared.rights.RightsError.{RightsError}
use Rattle.build_commands.specs.declared.rights.RightsError.TheVariants as rights

-- a directory of a list that was found makes nothing: its line sets attributes
abbrev pub sets : List NamedFile → NamedFile → Bool
sets found f = is_directory f && is_directory_in (file_at (path_of f) found)

-- the files that a list makes
abbrev pub made : List NamedFile → List NamedFile → List NamedFile
made found fs = filter (λ f. not (sets found f)) fs

abbrev pub setting_by : NamedFile → Setting
setting_by f = record {
  line = f.inode.number;
  path = string_bytes f.place;
  attributes = record { mode = Some f.mode; uid = f.uid; gid = f.gid };
}

-- the settings of a list, and then those of its directories that were found
abbrev pub settings : List NamedFile → Listing → List Setting
settings found l =
    map setting_of l.changes.items ++ map setting_by (filter (sets found) l.files.items)

-- the changes of a list in the order of its lines
pub record AreByLine (found : List NamedFile) (l : Listing) (changes : List Change) : Type 0 where
  pub unsorted : List Change
  pub are : map setting_of unsorted ≡ settings found l
  pub order : IsSortedByKey (λ c. c.line) nat_cmp changes
  pub stable : IsStableByKey (λ c. c.line) nat_cmp unsorted changes

-- a list: its files are laid over those that were found, then it sets attributes
pub record IsListLaid (found : List NamedFile) (text : List ℕ) (laid : List NamedFile)
    : Type 0 where
  pub listing : Listing
  pub says : list.IsListed found text listing
  pub changes : List Change
  pub by_line : AreByLine found listing changes
  pub all : List NamedFile
  pub over : AreLaid (found ++ made found listing.files.items) all
  pub is : laid ≡ map (changed all changes) all

-- a table: it sets attributes of files that were found, then its files are laid over them
pub record IsTableLaid (found : List NamedFile) (text : List ℕ) (laid : List NamedFile)
    : Type 0 where
  pub listing : Listing
  pub says : table.IsListed found text listing
  pub over : AreLaid (map (changed found listing.changes.items) found ++ listing.files.items) laid

-- no file has the path of a line that sets attributes
abbrev pub no_file : ℕ → BadLine
no_file n = record { line = n; number = BAD_TARGET; why = why.Missing }

pub record IsListMissing (found : List NamedFile) (text : List ℕ) (b : BadLine) : Type 0 where
  pub listing : Listing
  pub says : list.IsListed found text listing
  pub changes : List Change
  pub by_line : AreByLine found listing changes
  pub all : List NamedFile
  pub over : AreLaid (found ++ made found listing.files.items) all
  pub missing : IsMissing all changes b.line
  pub is : b ≡ no_file b.line

pub record IsTableMissing (found : List NamedFile) (text : List ℕ) (b : BadLine) : Type 0 where
  pub listing : Listing
  pub says : table.IsListed found text listing
  pub missing : IsMissing found listing.changes.items b.line
  pub is : b ≡ no_file b.line

-- a file that is laid over one of another kind
pub record IsListMixed (found : List NamedFile) (text : List ℕ) (f : NamedFile) : Type 0 where
  pub listing : Listing
  pub says : list.IsListed found text listing
  pub mixed : IsMixed (found ++ made found listing.files.items) f

pub record IsTableMixed (found : List NamedFile) (text : List ℕ) (f : NamedFile) : Type 0 where
  pub listing : Listing
  pub says : table.IsListed found text listing
  pub mixed :
      IsMixed (map (changed found listing.changes.items) found ++ listing.files.items) f

-- a line is refused, or a file cannot replace another one
abbrev pub IsListRefusal : List NamedFile → List ℕ → LayError → Type 0
IsListRefusal found text error.OutOfMemory = ⊤
IsListRefusal found text (error.Bad b) =
    list.IsRefusal found text (listed.Bad b) ⊎ IsListMissing found text b
IsListRefusal found text (error.Kinds f) = IsListMixed found text f

abbrev pub IsTableRefusal : List NamedFile → List ℕ → LayError → Type 0
IsTableRefusal found text error.OutOfMemory = ⊤
IsTableRefusal found text (error.Bad b) =
    table.IsRefusal found text (listed.Bad b) ⊎ IsTableMissing found text b
IsTableRefusal found text (error.Kinds f) = IsTableMixed found text f

-- the same reason
abbrev pub of_list : ListError → LayError
of_list listed.OutOfMemory = error.OutOfMemory
of_list (listed.Bad b) = error.Bad b

abbrev pub of_rights : RightsError → LayError
of_rights rights.OutOfMemory = error.OutOfMemory
of_rights (rights.Missing n) = error.Bad (no_file n)

abbrev pub of_overlay : OverlayError → LayError
of_overlay overlay.OutOfMemory = error.OutOfMemory
of_overlay (overlay.Kinds f) = error.Kinds f
