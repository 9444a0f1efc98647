-- The calls with which a run ends. `IsStop`, `IsCause`: the cause of an error. Either a call was
-- refused, or the source or the part says why the bytes were not written. (This project's own.)
use Rattle.std.specs.Prelude.{◌≡◌, ◌≢◌, ◌++◌, ⊤, ℕ, List, [], ◌∷◌, Option}
use Rattle.rom_fields.specs.Written.{Output}
use Rattle.atomic_file.specs.Log.{Create, Sync, Close, Rename, Remove, SyncDirectory}
use Rattle.atomic_file.specs.Log.{Event, Did, Refused, EndsBy, Knows, last_event}
use Rattle.atomic_file.specs.Moments.{IsPart, IsBegun}
use Rattle.atomic_file.specs.declared.directory.Durability.{Durability}
use Rattle.atomic_file.specs.declared.names.Names.{Names}
use Rattle.atomic_file.specs.declared.replacing.Stopped.{Stopped}
use Rattle.atomic_file.specs.declared.replacing.Stopped.TheVariants.{NotBegun, NotFinished}
use Rattle.atomic_file.specs.declared.replacing.Unfinished.{Unfinished}
use Rattle.atomic_file.specs.declared.replacing.Unfinished.TheVariants.{NotWritten, NotKept}

abbrev pub AreAll : (Event → Type 0) → List Event → Type 0
AreAll P [] = ⊤
AreAll P (e ∷ log) = P e × AreAll P log

-- events of this kind followed
abbrev pub Adds : (Event → Type 0) → List Event → List Event → Type 0
Adds P old new = (later : List Event) × (new ≡ later ++ old) × AreAll P later

-- what comes before the part: names that are taken, and removals of what was left under them
pub data IsTry (names : Names) : Event → Type 0 where
  taken : (n : ℕ) → IsPart names n → IsTry names (Refused (Create n))
  cleared : (n : ℕ) → IsPart names n → IsTry names (Did (Remove n))
  in_use : (n : ℕ) → IsPart names n → IsTry names (Refused (Remove n))

-- what follows it: removals of what was left under other names
pub data IsOther (names : Names) (name : ℕ) : Event → Type 0 where
  other_cleared : (n : ℕ) → IsPart names n → n ≢ name → IsOther names name (Did (Remove n))
  other_in_use : (n : ℕ) → IsPart names n → n ≢ name → IsOther names name (Refused (Remove n))

-- the part was made after that
abbrev pub IsMade : Names → ℕ → List Event → List Event → Type 0
IsMade names name old new =
    (mid : List Event) × Adds (IsTry names) old mid × (new ≡ Did (Create name) ∷ mid)

-- why no part was made: the last creation was refused, or all names are taken
pub data IsUnbegun (names : Names) (old log : List Event) : Type 0 where
  refused : (n : ℕ) → IsPart names n → EndsBy (Refused (Create n)) log → IsUnbegun names old log
  none_free : ((n : ℕ) → IsPart names n → Knows (Refused (Create n)) old log)
      → IsUnbegun names old log

-- a removal of the part, done or refused
pub data IsRemoval (name : ℕ) : Event → Type 0 where
  removed : IsRemoval name (Did (Remove name))
  stays : IsRemoval name (Refused (Remove name))

-- the calls after which the part has its name
abbrev pub renamed_run : Names → ℕ → Option (List ℕ) → List Event → List Event
renamed_run names name known old =
    Did (Rename name names.out) ∷ Did Close ∷ Did (Sync known) ∷ old

abbrev pub IsDone : Names → ℕ → Option (List ℕ) → Durability → List Event → List Event → Type 0
IsDone names name known d old log = log ≡ last_event d ∷ renamed_run names name known old

-- the runs in which the part did not get its name for good
pub data IsUnkept (names : Names) (name : ℕ) (known : Option (List ℕ)) (old : List Event)
    : List Event → Type 0 where
  not_synced : (e : Event) → IsRemoval name e
      → IsUnkept names name known old (e ∷ Refused (Sync known) ∷ old)
  not_closed : (e : Event) → IsRemoval name e
      → IsUnkept names name known old (e ∷ Refused Close ∷ Did (Sync known) ∷ old)
  not_renamed : (e : Event) → IsRemoval name e
      → IsUnkept names name known old
      (e ∷ Refused (Rename name names.out) ∷ Did Close ∷ Did (Sync known) ∷ old)
  not_durable : IsUnkept names name known old
      (Refused SyncDirectory ∷ renamed_run names name known old)

-- the source or the part says why the bytes were not written
abbrev pub IsUnwritten : {E : Type 0} → (Output → Output → E → Type 0) → Option (List ℕ) → E
    → Type 0
IsUnwritten Fails fresh e =
    (was : Output) × (is : Output) × (was.contents ≡ fresh) × Fails was is e

-- the cause of each end of a run that began with a part
abbrev pub IsStop : {E P : Type 0} → Names → ℕ → (Option (List ℕ) → Type 0)
    → (E → Type 0) → List Event → List Event → Unfinished E P → Type 0
IsStop names name Image Unwritten old log (NotWritten e part) =
    Unwritten e × ((removal : Event) × IsRemoval name removal × (log ≡ removal ∷ old))
IsStop names name Image Unwritten old log NotKept =
    (known : Option (List ℕ)) × Image known × IsUnkept names name known old log

-- the cause of each end of a whole run
abbrev pub IsCause : {E P : Type 0} → Names → (Option (List ℕ) → Type 0)
    → (E → Type 0) → List Event → List Event → Stopped E P → Type 0
IsCause names Image Unwritten old log (NotBegun e) = IsUnbegun names old log
IsCause names Image Unwritten old log (NotFinished e) =
    (name : ℕ) × (mid : List Event) × IsBegun names name old mid
    × IsStop names name Image Unwritten mid log e
