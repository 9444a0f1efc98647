-- The log that an account means. An account is the code's list of the calls that were made and of
-- their answers. (This project's own.)
use Rattle.std.specs.Prelude.{ℕ, ◌-◌, List, [], ◌∷◌, Option, Some, None}
use Rattle.std.specs.Prelude.{Vec, vec_len, vec_capacity}
use Rattle.std.specs.declared.alloc.Global.{Global}
use Rattle.atomic_file.specs.Log.{Call, Event, Did, Refused as Refuses, Skipped as Skips}
use Rattle.atomic_file.specs.Log.{Create as Creates, Sync as Syncs, Close as Closes}
use Rattle.atomic_file.specs.Log.{Rename as Renames, Remove as Removes}
use Rattle.atomic_file.specs.Log.{SyncDirectory as SyncsDirectory}
use Rattle.atomic_file.specs.declared.account.Asked.{Asked}
use Rattle.atomic_file.specs.declared.account.Asked.TheVariants.{Create, Sync, Close, Rename}
use Rattle.atomic_file.specs.declared.account.Asked.TheVariants.{Remove, SyncDirectory}
use Rattle.atomic_file.specs.declared.account.Answer.{Answer}
use Rattle.atomic_file.specs.declared.account.Answer.TheVariants.{Done, Refused, Skipped}
use Rattle.atomic_file.specs.declared.account.Answered.{Answered}
use Rattle.atomic_file.specs.declared.account.Account.{Account}

abbrev pub known_by : Option (Vec ℕ Global) → Option (List ℕ)
known_by None = None
known_by (Some v) = Some v.items

abbrev pub call_of : Asked → Call
call_of (Create name) = Creates name
call_of (Sync known) = Syncs (known_by known)
call_of Close = Closes
call_of (Rename from to) = Renames from to
call_of (Remove name) = Removes name
call_of SyncDirectory = SyncsDirectory

abbrev pub event : Asked → Answer → Event
event asked Done = Did (call_of asked)
event asked Refused = Refuses (call_of asked)
event asked Skipped = Skips

-- what was answered, on top of a log
abbrev pub logged : List Event → List Answered → List Event
logged log [] = log
logged log (a ∷ rest) = logged (event a.asked a.answer ∷ log) rest

abbrev pub log_of : Account → List Event
log_of a = logged [] a.answered.items

-- how many events an account has memory for
abbrev pub room_of : Account → ℕ
room_of a = vec_capacity a.answered - vec_len a.answered
