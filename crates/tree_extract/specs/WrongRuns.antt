-- Runs that change something outside the directory, that make something that is not a member, or
-- that leave something out. The newest event is first. (This project's own.)
use Rattle.std.specs.Prelude.{◌≢◌, ◌<◌, ℕ, List, ◌∷◌, ◌++◌, Option, length}
use Rattle.tree_extract.specs.Log.{MakeFile, MakeSymlink, SetRights, FinishFile}
use Rattle.tree_extract.specs.Log.{Event, Did}
use Rattle.tree_extract.specs.Members.{Member, AreMembers, kind_at, path_at, rights_at}
use Rattle.tree_extract.specs.Safe.{AreSafe, IsNew}
use Rattle.tree_extract.specs.Extracted.{AreOf, IsExtracted}
use Rattle.tree_extract.specs.declared.tree.Kind.TheVariants.{Nothing}
use Rattle.tree_extract.specs.declared.tree.Owner.{Owner}
use Rattle.tree_extract.specs.declared.tree.Rights.{Rights}

-- a file was made through a link that was made before
abbrev pub link_followed : List ℕ → List ℕ → Option Owner → List ℕ → List Event → List Event
link_followed link text owner rest log =
    Did (MakeFile (link ++ 47 ∷ rest)) ∷ Did (MakeSymlink link text owner) ∷ log

-- a file was made by the path `/../rest`
abbrev pub led_outside : List ℕ → List Event → List Event
led_outside rest log = Did (MakeFile (47 ∷ 46 ∷ 46 ∷ 47 ∷ rest)) ∷ log

-- a link was replaced by a file
abbrev pub made_twice : List ℕ → List ℕ → Option Owner → List Event → List Event
made_twice path text owner log = Did (MakeFile path) ∷ Did (MakeSymlink path text owner) ∷ log

-- the rights of a directory were set, and then a file was made
abbrev pub rights_first : List ℕ → List ℕ → Rights → List Event → List Event
rights_first path directory rights log =
    Did (MakeFile path) ∷ Did (SetRights directory rights) ∷ log

-- the last call of this run is not safe
abbrev pub RefusesCall : (List Event → List Event) → Type 0
RefusesCall run = (log : List Event) → AreSafe (run log) → ⊥

-- nothing was made at the path of a member that is to be made
abbrev pub RefusesLeftOut : Type 0
RefusesLeftOut = (known : Option (List ℕ)) (ms : List Member) (i : ℕ) (log : List Event)
    → i < length ms → kind_at ms i ≢ Nothing → AreSafe log → IsNew log (path_at ms i)
    → IsExtracted known ms log → ⊥

-- a file was made at a path that no member has
abbrev pub RefusesForeign : Type 0
RefusesForeign = (known : Option (List ℕ)) (ms : List Member) (path : List ℕ) (log : List Event)
    → ((i : ℕ) → i < length ms → path ≢ path_at ms i) → AreOf known ms (Did (MakeFile path) ∷ log)
    → ⊥

abbrev pub RefusesRightsFirst : Type 0
RefusesRightsFirst = (known : Option (List ℕ)) (ms : List Member) (path directory : List ℕ)
    (rights : Rights) (log : List Event)
    → IsExtracted known ms (rights_first path directory rights log) → ⊥

-- a file or a directory was made with rights that are not those of the member
abbrev pub RefusesOtherRights : Type 0
RefusesOtherRights = (known contents : Option (List ℕ)) (ms : List Member) (i : ℕ) (rights : Rights)
    (log : List Event) → AreMembers ms → i < length ms → rights ≢ rights_at ms i
    → AreOf known ms (Did (FinishFile (path_at ms i) contents rights) ∷ log) → ⊥
