-- `log_of`: the log that the notes of a directory in memory mean. (This project's own.)
use Rattle.std.specs.Prelude.{ℕ, Bool, cond, List, [], ◌∷◌, Some}
use Rattle.tree_extract.specs.Log.{Call, MakeDirectory, MakeFile, FinishFile, MakeName}
use Rattle.tree_extract.specs.Log.{MakeSymlink, SetRights, Event, Did, Refused}
use Rattle.tree_extract.specs.declared.account.Asked.{Asked}
use Rattle.tree_extract.specs.declared.account.Asked.TheVariants as asked
use Rattle.library_tests.specs.declared.kept.Note.{Note}

-- What was asked at a path, with the bytes of a file, the text of a link, or the path of the file
-- that gets a further name.
abbrev pub call_at : List ℕ → Asked → List ℕ → Call
call_at path asked.MakeDirectory bytes = MakeDirectory path
call_at path asked.MakeFile bytes = MakeFile path
call_at path (asked.FinishFile rights) bytes = FinishFile path (Some bytes) rights
call_at path asked.MakeName bytes = MakeName path bytes
call_at path (asked.MakeSymlink owner) bytes = MakeSymlink path bytes owner
call_at path (asked.SetRights rights) bytes = SetRights path rights

abbrev pub event_of : Call → Bool → Event
event_of call is_done = cond is_done (Did call) (Refused call)

abbrev pub event : Note → Event
event n = event_of (call_at n.path.items n.asked n.bytes.items) n.is_done

-- what was noted, on top of a log
abbrev pub logged : List Event → List Note → List Event
logged log [] = log
logged log (n ∷ rest) = logged (event n ∷ log) rest

abbrev pub log_of : List Note → List Event
log_of notes = logged [] notes
