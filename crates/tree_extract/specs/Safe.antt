-- `IsSafe`: a call that changes nothing outside the directory, after the events of a log. Its path
-- is plain, leads through no link that was made or asked for, and nothing was made there. (This
-- project's own.)
use Rattle.std.specs.Prelude.{◌≡◌, ◌≢◌, ℕ, List, [], ◌∷◌}
use Rattle.tree_extract.specs.Paths.{IsPlain, LeadsThrough}
use Rattle.tree_extract.specs.Log.{Call, MakeDirectory, MakeFile, FinishFile, MakeName}
use Rattle.tree_extract.specs.Log.{MakeSymlink, SetRights, Event, Did, Refused, call_of, Has}

-- a path does not lead through what is made by this call, if that is a link
abbrev pub MissesLink : Call → List ℕ → Type 0
MissesLink (MakeSymlink p text owner) q = LeadsThrough p q → ⊥
MissesLink call q = Unit {0}

-- a path leads through no link that was made, or may have been
abbrev pub MissesLinks : List Event → List ℕ → Type 0
MissesLinks [] q = Unit {0}
MissesLinks (e ∷ log) q = MissesLink (call_of e) q × MissesLinks log q

-- this call makes nothing at a path
abbrev pub MakesOther : Call → List ℕ → Type 0
MakesOther (MakeDirectory p) q = p ≢ q
MakesOther (MakeFile p) q = p ≢ q
MakesOther (FinishFile p contents rights) q = Unit {0}
MakesOther (MakeName p first) q = p ≢ q
MakesOther (MakeSymlink p text owner) q = p ≢ q
MakesOther (SetRights p rights) q = Unit {0}

-- nothing was made at a path
abbrev pub IsNew : List Event → List ℕ → Type 0
IsNew [] q = Unit {0}
IsNew (Did call ∷ log) q = MakesOther call q × IsNew log q
IsNew (Refused call ∷ log) q = IsNew log q

-- a path leads down from the directory, and through no link
pub record IsInside (log : List Event) (path : List ℕ) : Type 0 where
  pub plain : IsPlain path
  pub misses : MissesLinks log path

-- the same, and nothing was made there
pub record IsFree (log : List Event) (path : List ℕ) : Type 0 where
  pub inside : IsInside log path
  pub fresh : IsNew log path

-- A call is safe after these events. A file is finished right after it was made, and rights are set
-- of a directory that was made.
abbrev pub IsSafe : List Event → Call → Type 0
IsSafe log (MakeDirectory p) = IsFree log p
IsSafe log (MakeFile p) = IsFree log p
IsSafe log (FinishFile p contents rights) =
    (older : List Event) × (log ≡ Did (MakeFile p) ∷ older)
IsSafe log (MakeName p first) = IsFree log p × IsInside log first
IsSafe log (MakeSymlink p text owner) = IsFree log p
IsSafe log (SetRights p rights) = IsInside log p × Has log (Did (MakeDirectory p))

-- each call was safe when it was asked
abbrev pub AreSafe : List Event → Type 0
AreSafe [] = Unit {0}
AreSafe (e ∷ log) = IsSafe log (call_of e) × AreSafe log
