-- `Call`, `Event`: what is asked of a directory, and what it answers. A log has the events, newest
-- first. `Throughout`: a property held at each moment from one log to a later one. (This project's
-- own.)
use Rattle.std.specs.Prelude.{◌≡◌, ℕ, List, [], ◌∷◌, ◌++◌, Option, Result, Ok, Err}
use Rattle.atomic_file.specs.declared.directory.Durability.{Durability}
use Rattle.atomic_file.specs.declared.directory.Durability.TheVariants.{Durable, Unknown}

-- What can be asked of a directory. A name is the number by which the directory knows it.
pub data Call : Type 0 where
  -- to make an empty file under a name that nothing has
  Create : ℕ → Call
  -- to synchronize the file that was made last, with these bytes, if they are known
  Sync : Option (List ℕ) → Call
  -- to close the file that was made last
  Close : Call
  -- to give a file the name of another, in one step
  Rename : ℕ → ℕ → Call
  -- to remove the name of a file
  Remove : ℕ → Call
  -- to synchronize the directory
  SyncDirectory : Call

-- A call that was done, or one that was refused; or a directory that cannot be synchronized, so
-- that this was skipped.
pub data Event : Type 0 where
  Did : Call → Event
  Refused : Call → Event
  Skipped : Event

abbrev pub event_of : {A E : Type 0} → Call → Result A E → Event
event_of call (Ok a) = Did call
event_of call (Err e) = Refused call

-- the call was made, and no other
abbrev pub Logs : {A E : Type 0} → Call → Result A E → List Event → List Event → Type 0
Logs call result old new = new ≡ event_of call result ∷ old

-- how the directory was synchronized
abbrev pub last_event : Durability → Event
last_event Durable = Did SyncDirectory
last_event Unknown = Skipped

abbrev pub synced_event : {E : Type 0} → Result Durability E → Event
synced_event (Ok d) = last_event d
synced_event (Err e) = Refused SyncDirectory

abbrev pub LogsLast : {E : Type 0} → Result Durability E → List Event → List Event → Type 0
LogsLast result old new = new ≡ synced_event result ∷ old

-- the newest event
abbrev pub EndsBy : Event → List Event → Type 0
EndsBy e log = (rest : List Event) × (log ≡ e ∷ rest)

-- the event is one of those since
abbrev pub Knows : Event → List Event → List Event → Type 0
Knows e old new =
    (newer : List Event) × (older : List Event) × (new ≡ newer ++ (e ∷ (older ++ old)))

abbrev pub EachMoment : (List Event → Type 0) → List Event → List Event → Type 0
EachMoment P [] old = P old
EachMoment P (e ∷ later) old = P (e ∷ (later ++ old)) × EachMoment P later old

-- from old to new, P held at each moment
abbrev pub Throughout : (List Event → Type 0) → List Event → List Event → Type 0
Throughout P old new = (later : List Event) × (new ≡ later ++ old) × EachMoment P later old
