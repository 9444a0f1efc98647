-- `IsExtracted`: the members were made, each whole and with its rights, those of directories last.
-- `AreOf`: each call that was asked makes one of the members. (This project's own.)
use Rattle.std.specs.Prelude.{◌≡◌, ◌⊎◌, ◌<◌, ℕ, Bool, true, false, cond, List, [], ◌∷◌, Option}
use Rattle.std.specs.Prelude.{length}
use Rattle.std.specs.Io.KnownBytes.{Appends}
use Rattle.tree_extract.specs.Log.{Call, MakeDirectory, MakeFile, FinishFile, MakeName}
use Rattle.tree_extract.specs.Log.{MakeSymlink, SetRights, Event, Did, Refused, call_of, Has}
use Rattle.tree_extract.specs.Log.{HasAfter}
use Rattle.tree_extract.specs.Members.{Member, kind_at, path_at, bytes_at, rights_at}
use Rattle.tree_extract.specs.Members.{owner_at}
use Rattle.tree_extract.specs.declared.tree.Kind.{Kind}
use Rattle.tree_extract.specs.declared.tree.Kind.TheVariants.{Directory, File, Further, Symlink}
use Rattle.tree_extract.specs.declared.tree.Kind.TheVariants.{Nothing}
use Rattle.tree_extract.specs.declared.tree.Rights.{Rights}

-- a file of its own is made for this kind, or can be
abbrev pub is_file : Kind → Bool
is_file Directory = false
is_file File = true
is_file (Further first) = true
is_file Symlink = false
is_file Nothing = false

-- A call makes the member at index i, or sets its rights. `fresh` is what is known of a new file.
abbrev pub Makes : Option (List ℕ) → List Member → ℕ → Call → Type 0
Makes fresh ms i (MakeDirectory p) = (p ≡ path_at ms i) × (kind_at ms i ≡ Directory)
Makes fresh ms i (MakeFile p) = (p ≡ path_at ms i) × (is_file (kind_at ms i) ≡ true)
Makes fresh ms i (FinishFile p contents rights) =
    (p ≡ path_at ms i) × (is_file (kind_at ms i) ≡ true) × (rights ≡ rights_at ms i)
    × Appends fresh contents (bytes_at ms i)
Makes fresh ms i (MakeName p first) =
    (p ≡ path_at ms i) × (k : ℕ) × (kind_at ms i ≡ Further k) × (first ≡ path_at ms k)
Makes fresh ms i (MakeSymlink p text owner) =
    (p ≡ path_at ms i) × (kind_at ms i ≡ Symlink) × (text ≡ bytes_at ms i)
    × (owner ≡ owner_at ms i)
Makes fresh ms i (SetRights p rights) =
    (p ≡ path_at ms i) × (kind_at ms i ≡ Directory) × (rights ≡ rights_at ms i)

-- a call makes one of the members
abbrev pub IsOf : Option (List ℕ) → List Member → Call → Type 0
IsOf fresh ms call = (i : ℕ) × (i < length ms) × Makes fresh ms i call

-- each call that was asked makes one of the members
abbrev pub AreOf : Option (List ℕ) → List Member → List Event → Type 0
AreOf fresh ms [] = Unit {0}
AreOf fresh ms (e ∷ log) = IsOf fresh ms (call_of e) × AreOf fresh ms log

-- a file was made and finished with these rights, and with these bytes, if they are known
abbrev pub IsWhole : Option (List ℕ) → List Event → List ℕ → List ℕ → Rights → Type 0
IsWhole fresh log p bytes rights =
    (contents : Option (List ℕ)) × Appends fresh contents bytes
    × Has log (Did (FinishFile p contents rights))

-- such a file was made after a further name at this path was refused
abbrev pub IsCopied : Option (List ℕ) → List Event → List ℕ → List ℕ → List ℕ → Rights → Type 0
IsCopied fresh log p first bytes rights =
    (contents : Option (List ℕ)) × Appends fresh contents bytes
    × HasAfter log (Did (FinishFile p contents rights)) (Refused (MakeName p first))

abbrev pub IsMadeAs : Option (List ℕ) → List Member → ℕ → List Event → Kind → Type 0
IsMadeAs fresh ms i log Directory = Has log (Did (MakeDirectory (path_at ms i)))
IsMadeAs fresh ms i log File =
    IsWhole fresh log (path_at ms i) (bytes_at ms i) (rights_at ms i)
IsMadeAs fresh ms i log (Further first) =
    Has log (Did (MakeName (path_at ms i) (path_at ms first)))
    ⊎ IsCopied fresh log (path_at ms i) (path_at ms first) (bytes_at ms i) (rights_at ms i)
IsMadeAs fresh ms i log Symlink =
    Has log (Did (MakeSymlink (path_at ms i) (bytes_at ms i) (owner_at ms i)))
IsMadeAs fresh ms i log Nothing = Unit {0}

-- The member at index i was made. A further name is one of the same file. Only if the directory
-- refused that, it is a file of its own with the same bytes.
abbrev pub IsMade : Option (List ℕ) → List Member → ℕ → List Event → Type 0
IsMade fresh ms i log = IsMadeAs fresh ms i log (kind_at ms i)

abbrev pub sets_rights : Call → Bool
sets_rights (MakeDirectory p) = false
sets_rights (MakeFile p) = false
sets_rights (FinishFile p contents rights) = false
sets_rights (MakeName p first) = false
sets_rights (MakeSymlink p text owner) = false
sets_rights (SetRights p rights) = true

-- no rights of a directory were set
abbrev pub HasNoRights : List Event → Type 0
HasNoRights [] = Unit {0}
HasNoRights (e ∷ log) = (sets_rights (call_of e) ≡ false) × HasNoRights log

-- nothing was made after the rights of a directory were set
abbrev pub AreRightsLast : List Event → Type 0
AreRightsLast [] = Unit {0}
AreRightsLast (e ∷ log) = cond (sets_rights (call_of e)) (AreRightsLast log) (HasNoRights log)

-- Each member was made, and then the rights of each directory were set.
pub record IsExtracted (fresh : Option (List ℕ)) (ms : List Member) (log : List Event)
    : Type 0 where
  pub made : (i : ℕ) → i < length ms → IsMade fresh ms i log
  pub rights : (i : ℕ) → i < length ms → kind_at ms i ≡ Directory
      → Has log (Did (SetRights (path_at ms i) (rights_at ms i)))
  pub last : AreRightsLast log
