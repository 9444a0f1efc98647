-- The log that an account means. An account is the code's list of the calls that were made and of
-- their answers. (This project's own.)
use Rattle.std.specs.Prelude.{ℕ, ◌-◌, Bool, cond, List, [], ◌∷◌, None, vec_len, vec_capacity}
use Rattle.tree_extract.specs.Log.{Call, MakeDirectory, MakeFile, FinishFile, MakeName}
use Rattle.tree_extract.specs.Log.{MakeSymlink, SetRights, Event, Did, Refused}
use Rattle.tree_extract.specs.Members.{Member, kind_at, path_at, bytes_at}
use Rattle.tree_extract.specs.declared.tree.Kind.{Kind}
use Rattle.tree_extract.specs.declared.tree.Kind.TheVariants.{Directory, File, Further, Symlink}
use Rattle.tree_extract.specs.declared.tree.Kind.TheVariants.{Nothing}
use Rattle.tree_extract.specs.declared.account.Asked.{Asked}
use Rattle.tree_extract.specs.declared.account.Asked.TheVariants as asked
use Rattle.tree_extract.specs.declared.account.Answered.{Answered}
use Rattle.tree_extract.specs.declared.account.Account.{Account}

-- the member of which a member is a further name
abbrev pub first_of : Kind → ℕ
first_of Directory = 0
first_of File = 0
first_of (Further first) = first
first_of Symlink = 0
first_of Nothing = 0

-- what was asked of the member at index i
abbrev pub call_for : List Member → Asked → ℕ → Call
call_for ms asked.MakeDirectory i = MakeDirectory (path_at ms i)
call_for ms asked.MakeFile i = MakeFile (path_at ms i)
call_for ms (asked.FinishFile rights) i = FinishFile (path_at ms i) None rights
call_for ms asked.MakeName i = MakeName (path_at ms i) (path_at ms (first_of (kind_at ms i)))
call_for ms (asked.MakeSymlink owner) i = MakeSymlink (path_at ms i) (bytes_at ms i) owner
call_for ms (asked.SetRights rights) i = SetRights (path_at ms i) rights

abbrev pub event : List Member → Asked → ℕ → Bool → Event
event ms asked i is_done = cond is_done (Did (call_for ms asked i)) (Refused (call_for ms asked i))

-- what was answered, on top of a log
abbrev pub logged : List Member → List Event → List Answered → List Event
logged ms log [] = log
logged ms log (a ∷ rest) = logged ms (event ms a.asked a.index a.is_done ∷ log) rest

abbrev pub log_of : List Member → Account → List Event
log_of ms a = logged ms [] a.answered.items

-- how many events an account has memory for
abbrev pub room_of : Account → ℕ
room_of a = vec_capacity a.answered - vec_len a.answered
