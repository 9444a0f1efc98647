-- `Call`, `Event`: what is asked of a directory that is extracted into, and what it answers. A log
-- has the events, newest first. (This project's own.)
use Rattle.std.specs.Prelude.{◌≡◌, ◌⊎◌, ℕ, Bool, true, false, List, [], ◌∷◌, Option}
use Rattle.std.specs.Prelude.{Result, Ok, Err}
use Rattle.tree_extract.specs.declared.tree.Owner.{Owner}
use Rattle.tree_extract.specs.declared.tree.Rights.{Rights}

-- what can be asked of a directory, by paths below it
pub data Call : Type 0 where
  MakeDirectory : List ℕ → Call
  -- to make an empty file
  MakeFile : List ℕ → Call
  -- to set these rights of the file that was made last, and to close it, with this contents, if it
  -- is known
  FinishFile : List ℕ → Option (List ℕ) → Rights → Call
  -- to make a further name of the file at the second path
  MakeName : List ℕ → List ℕ → Call
  -- to make a symbolic link of this text, with this owner
  MakeSymlink : List ℕ → List ℕ → Option Owner → Call
  -- to set these rights of a directory
  SetRights : List ℕ → Rights → Call

pub data Event : Type 0 where
  Did : Call → Event
  Refused : Call → Event

abbrev pub call_of : Event → Call
call_of (Did call) = call
call_of (Refused call) = call

-- The call was done at Ok. At Err it was refused, or nothing was asked.
abbrev pub Logs : {A E : Type 0} → Call → Result A E → List Event → List Event → Type 0
Logs call (Ok a) old new = new ≡ Did call ∷ old
Logs call (Err e) old new = (new ≡ Refused call ∷ old) ⊎ (new ≡ old)

-- the same for a call that answers whether the directory can do it
abbrev pub LogsName : {E : Type 0} → Call → Result Bool E → List Event → List Event → Type 0
LogsName call (Ok true) old new = new ≡ Did call ∷ old
LogsName call (Ok false) old new = new ≡ Refused call ∷ old
LogsName call (Err e) old new = (new ≡ Refused call ∷ old) ⊎ (new ≡ old)

-- an event of a log
abbrev pub Has : List Event → Event → Type 0
Has [] x = ⊥
Has (e ∷ log) x = (x ≡ e) ⊎ Has log x

-- an event of a log, and another one before it
abbrev pub HasAfter : List Event → Event → Event → Type 0
HasAfter [] x before = ⊥
HasAfter (e ∷ log) x before = ((x ≡ e) × Has log before) ⊎ HasAfter log x before
