-- For the proofs: what holds between two members of a pass. (This project's own.)
use Rattle.std.specs.Prelude.{◌≡◌, ◌⊎◌, ◌<◌, ◌≤◌, ℕ, List, ◌∷◌, Option, length}
use Rattle.std.specs.Io.KnownBytes.{Appends}
use Rattle.tree_extract.specs.Log.{MakeFile, FinishFile, MakeName, SetRights, Event, Did, Refused}
use Rattle.tree_extract.specs.Log.{Has}
use Rattle.tree_extract.specs.Members.{Member, kind_at, path_at, bytes_at, rights_at}
use Rattle.tree_extract.specs.Safe.{AreSafe, IsNew}
use Rattle.tree_extract.specs.Extracted.{AreOf, IsMade, HasNoRights, AreRightsLast}
use Rattle.tree_extract.specs.declared.tree.Kind.{Kind}
use Rattle.tree_extract.specs.declared.tree.Kind.TheVariants as kind
use Rattle.tree_extract.specs.declared.extracting.Phase.{Phase}
use Rattle.tree_extract.specs.declared.extracting.Phase.TheVariants.{Directories, Files, Links}

-- the number of the pass in which a kind is made
abbrev pub rank : Kind → ℕ
rank kind.Directory = 0
rank kind.File = 1
rank (kind.Further first) = 1
rank kind.Symlink = 2
rank kind.Nothing = 3

abbrev pub number : Phase → ℕ
number Directories = 0
number Files = 1
number Links = 2

-- pass f, before the member k, has been at member j
abbrev pub IsPast : List Member → ℕ → ℕ → ℕ → Type 0
IsPast ms f k j = (rank (kind_at ms j) < f) ⊎ ((rank (kind_at ms j) ≡ f) × (j < k))

-- what holds at each moment: each call was safe, and makes a member
pub record IsRun (known : Option (List ℕ)) (ms : List Member) (log : List Event) : Type 0 where
  pub safe : AreSafe log
  pub of : AreOf known ms log

-- pass f is before the member k
pub record IsAt (known : Option (List ℕ)) (ms : List Member) (f k : ℕ) (log : List Event)
    : Type 0 where
  pub run : IsRun known ms log
  pub done : (j : ℕ) → j < length ms → IsPast ms f k j → IsMade known ms j log
  pub fresh : (j : ℕ) → j < length ms → (IsPast ms f k j → ⊥) → IsNew log (path_at ms j)
  pub no_rights : HasNoRights log

-- a file was made
abbrev pub IsFileMade : Option (List ℕ) → List Member → ℕ → List Event → List Event → Type 0
IsFileMade known ms i old new =
    (contents : Option (List ℕ)) × Appends known contents (bytes_at ms i)
    × (new ≡ Did (FinishFile (path_at ms i) contents (rights_at ms i))
    ∷ Did (MakeFile (path_at ms i)) ∷ old)

-- a further name was made, or a file of its own
abbrev pub IsNameMade : Option (List ℕ) → List Member → ℕ → ℕ → List Event → List Event → Type 0
IsNameMade known ms i first old new =
    (new ≡ Did (MakeName (path_at ms i) (path_at ms first)) ∷ old)
    ⊎ IsFileMade known ms i (Refused (MakeName (path_at ms i) (path_at ms first)) ∷ old) new

-- all is made, and the rights of the directories from the member k on are set
pub record IsSet (known : Option (List ℕ)) (ms : List Member) (k : ℕ) (log : List Event)
    : Type 0 where
  pub run : IsRun known ms log
  pub made : (j : ℕ) → j < length ms → IsMade known ms j log
  pub set : (j : ℕ) → k ≤ j → j < length ms → kind_at ms j ≡ kind.Directory
      → Has log (Did (SetRights (path_at ms j) (rights_at ms j)))
  pub last : AreRightsLast log
