-- The paths of members are inside the directory, and lead through no link.
use Rattle.std.proofs.Common.{◌≢◌, ◌<◌, ℕ, List, [], ◌∷◌, Option, length, sym, ◌∙◌, subst}
use Rattle.tree_extract.specs.Paths.{LeadsThrough}
use Rattle.tree_extract.specs.Members.{Member, AreMembers, kind_at, path_at}
use Rattle.tree_extract.specs.Log.{Call, MakeDirectory, MakeFile, FinishFile, MakeName}
use Rattle.tree_extract.specs.Log.{MakeSymlink, SetRights, Event, call_of}
use Rattle.tree_extract.specs.Safe.{MissesLink, MissesLinks, IsNew, IsInside, IsFree, MakesOther}
use Rattle.tree_extract.specs.Extracted.{IsOf, AreOf, Makes}
use Rattle.tree_extract.specs.Passes.{IsRun}
use Rattle.tree_extract.specs.declared.tree.Kind.TheVariants as kind

misses_link : (known : Option (List ℕ)) (ms : List Member) (c : Call) (j : ℕ) → AreMembers ms → IsOf known ms c
    → j < length ms → MissesLink c (path_at ms j)
misses_link known ms (MakeDirectory p) j members of lt = tt
misses_link known ms (MakeFile p) j members of lt = tt
misses_link known ms (FinishFile p contents rights) j members of lt = tt
misses_link known ms (MakeName p first) j members of lt = tt
misses_link known ms (MakeSymlink p text owner) j members of lt =
    λ leads. members.leaves of.0 j of.1 lt of.2.1 (subst (λ q. LeadsThrough q (path_at ms j)) of.2.0 leads)
misses_link known ms (SetRights p rights) j members of lt = tt

pub misses : (known : Option (List ℕ)) (ms : List Member) (log : List Event) (j : ℕ) → AreMembers ms
    → AreOf known ms log → j < length ms → MissesLinks log (path_at ms j)
misses known ms [] j members of lt = tt
misses known ms (e ∷ log) j members of lt =
    (misses_link known ms (call_of e) j members of.0 lt, misses known ms log j members of.1 lt)

pub inside : (known : Option (List ℕ)) (ms : List Member) (log : List Event) (j : ℕ) → AreMembers ms
    → IsRun known ms log → j < length ms → kind_at ms j ≢ kind.Nothing → IsInside log (path_at ms j)
inside known ms log j members run lt some =
    record { plain = members.plain j lt some; misses = misses known ms log j members run.of lt }

pub free : (known : Option (List ℕ)) (ms : List Member) (log : List Event) (j : ℕ) → AreMembers ms
    → IsRun known ms log → j < length ms → kind_at ms j ≢ kind.Nothing → IsNew log (path_at ms j)
    → IsFree log (path_at ms j)
free known ms log j members run lt some fresh =
    record { inside = inside known ms log j members run lt some; fresh = fresh }

-- what makes one member makes no other
pub makes_other : (known : Option (List ℕ)) (ms : List Member) (i j : ℕ) (c : Call) → AreMembers ms
    → i < length ms → j < length ms → i ≢ j → Makes known ms i c → MakesOther c (path_at ms j)
makes_other known ms i j (MakeDirectory p) members li lj other makes =
    λ is. other (members.distinct i j li lj (sym makes.0 ∙ is))
makes_other known ms i j (MakeFile p) members li lj other makes =
    λ is. other (members.distinct i j li lj (sym makes.0 ∙ is))
makes_other known ms i j (FinishFile p contents rights) members li lj other makes = tt
makes_other known ms i j (MakeName p first) members li lj other makes =
    λ is. other (members.distinct i j li lj (sym makes.0 ∙ is))
makes_other known ms i j (MakeSymlink p text owner) members li lj other makes =
    λ is. other (members.distinct i j li lj (sym makes.0 ∙ is))
makes_other known ms i j (SetRights p rights) members li lj other makes = tt
