-- Whether the files of a list fit one another and the files that were found: no other line has the
-- path, a found file at the path is of the same kind, and the directory that the path is in was
-- found, or the list makes it. (This project's own.)
use Rattle.std.specs.Prelude.{ℕ, ◌==◌, ◌||◌, ◌&&◌, not, nat_lt, Bool, true, false}
use Rattle.std.specs.Prelude.{if◌then◌else◌, List, [], ◌∷◌, Option, Some, None}
use Rattle.std.specs.BTreeSet.{BTreeSet, contains_by}
use Rattle.std.specs.Borrow.{Bor}
use Rattle.std.specs.Cmp.Lexicographic.{slice_cmp}
use Rattle.std.specs.List.{list_any}
use Rattle.std.specs.Ordering.{nat_cmp}
use Rattle.std.specs.Str.{bytes_eq}
use Rattle.manifest.specs.FaultNumbers.{EXISTS, NO_PARENT}
use Rattle.manifest.specs.Texts.{is_empty}
use Rattle.build_commands.specs.Inventory.{path_of}
use Rattle.build_commands.specs.Overlay.{has_path, is_directory}
use Rattle.build_commands.specs.Rights.{file_at}
use Rattle.build_commands.specs.declared.inventory.NamedFile.{NamedFile}
use Rattle.build_commands.specs.declared.listing.BadLine.{BadLine}
use Rattle.build_commands.specs.declared.listing.Why.TheVariants as why

-- what is before the last b of a text, or nothing
abbrev pub before_last : ℕ → List ℕ → List ℕ
before_last b [] = []
before_last b (x ∷ xs) = if list_any (λ y. y == b) xs then x ∷ before_last b xs else []

-- a set of paths has this one
abbrev pub holds : BTreeSet (Bor (List ℕ)) → List ℕ → Bool
holds set path = contains_by (λ k. slice_cmp nat_cmp path k.now) set

-- a list of files has a directory at a path
abbrev pub has_directory : List NamedFile → List ℕ → Bool
has_directory fs path = list_any (λ f. is_directory f && has_path path f) fs

-- the file is a directory
abbrev pub is_directory_in : Option NamedFile → Bool
is_directory_in None = false
is_directory_in (Some f) = is_directory f

abbrev pub are_different : Bool → Bool → Bool
are_different true b = not b
are_different false b = b

-- the file that was found is of another kind
abbrev pub differs : Option NamedFile → NamedFile → Bool
differs None f = false
differs (Some g) f = are_different (is_directory g) (is_directory f)

-- a file has the path of the one before it
abbrev pub repeats : Option NamedFile → NamedFile → Bool
repeats None f = false
repeats (Some g) f = bytes_eq (path_of g) (path_of f)

abbrev pub is_there : List NamedFile → List NamedFile → List ℕ → Bool
is_there found listed path =
    is_empty path || is_directory_in (file_at path found) || has_directory listed path

-- the fault of a file of a list
abbrev pub fault_of : List NamedFile → List NamedFile → Bool → NamedFile → Option BadLine
fault_of found listed is_repeated f =
    if is_repeated || differs (file_at (path_of f) found) f
    then Some (record { line = f.inode.number; number = EXISTS; why = why.Exists })
    else (if is_there found listed (before_last 47 (path_of f)) then None
    else Some (record { line = f.inode.number; number = NO_PARENT; why = why.Parent }))

-- the bad line of the lesser number, and of one number the first
abbrev pub sooner_of : BadLine → BadLine → BadLine
sooner_of a b = if nat_lt b.line a.line then b else a

abbrev pub sooner : Option BadLine → Option BadLine → Option BadLine
sooner None b = b
sooner (Some a) None = Some a
sooner (Some a) (Some b) = Some (sooner_of a b)

-- the first bad line of a sorted list: `first` is that of the files before these, of which g is the
-- last
abbrev pub first_from : List NamedFile → List NamedFile → Option BadLine → Option NamedFile
    → List NamedFile → Option BadLine
first_from found listed first g [] = first
first_from found listed first g (f ∷ fs) =
    first_from found listed (sooner first (fault_of found listed (repeats g f) f)) (Some f) fs

unfoldable pub first_unfit : List NamedFile → List NamedFile → Option BadLine
first_unfit found listed = first_from found listed None None listed
