-- What a log leaves under each name: as it is seen (`entry`), and after a crash (`MayLead`,
-- `content`). A crash may undo what was not synchronized. Data are durable from the fsync of the
-- file on, and a name from the fsync of its directory on. (POSIX.1-2017, fsync and rename; what a
-- crash may leave before an fsync is this project's own.)
use Rattle.std.specs.Prelude.{◌≡◌, ◌⊎◌, ℕ, suc, cond, List, [], ◌∷◌, Option, nat_eq}
use Rattle.atomic_file.specs.Log.{Call, Create, Sync, Close, Rename, Remove, SyncDirectory}
use Rattle.atomic_file.specs.Log.{Event, Did, Refused, Skipped}

-- What a name leads to: what a name led to when the log began, nothing, or the k-th file that was
-- made.
pub data Place : Type 0 where
  AsBefore : ℕ → Place
  Nothing : Place
  Made : ℕ → Place

abbrev pub made_by : Call → ℕ → ℕ
made_by (Create name) k = suc k
made_by (Sync known) k = k
made_by Close k = k
made_by (Rename from to) k = k
made_by (Remove name) k = k
made_by SyncDirectory k = k

-- the number of files that were made, or may have been
abbrev pub made : List Event → ℕ
made [] = 0
made (Did call ∷ log) = made_by call (made log)
made (Refused call ∷ log) = made_by call (made log)
made (Skipped ∷ log) = made log

abbrev pub led_by : Call → ℕ → (ℕ → Place) → ℕ → Place
led_by (Create name) k old n = cond (nat_eq n name) (Made k) (old n)
led_by (Sync known) k old n = old n
led_by Close k old n = old n
led_by (Rename from to) k old n =
    cond (nat_eq n to) (old from) (cond (nat_eq n from) Nothing (old n))
led_by (Remove name) k old n = cond (nat_eq n name) Nothing (old n)
led_by SyncDirectory k old n = old n

-- what a name leads to, as it is seen
abbrev pub entry : List Event → ℕ → Place
entry [] n = AsBefore n
entry (Did call ∷ log) n = led_by call (made log) (entry log) n
entry (Refused call ∷ log) n = entry log n
entry (Skipped ∷ log) n = entry log n

-- What a name may lead to after a crash: what it led to at some moment since the directory was last
-- synchronized, each name for itself. A call that was refused may still have happened on the disk.
abbrev pub MayLead : List Event → ℕ → Place → Type 0
MayLead [] n p = p ≡ AsBefore n
MayLead (Did SyncDirectory ∷ log) n p = p ≡ entry log n
MayLead (Did call ∷ log) n p = (p ≡ led_by call (made log) (entry log) n) ⊎ MayLead log n p
MayLead (Refused call ∷ log) n p = (p ≡ led_by call (made log) (entry log) n) ⊎ MayLead log n p
MayLead (Skipped ∷ log) n p = MayLead log n p

-- what a file holds after a crash: anything, or exactly these bytes, if they are known
pub data Content : Type 0 where
  Anything : Content
  Whole : Option (List ℕ) → Content

-- the file that was made last, if its synchronization is the newest event
abbrev pub synced : List Event → Content
synced [] = Anything
synced (Did (Sync known) ∷ log) = Whole known
synced (Did call ∷ log) = Anything
synced (Refused call ∷ log) = Anything
synced (Skipped ∷ log) = Anything

-- What the k-th file that was made holds after a crash. It is whole once it was synchronized and
-- then closed, and both were done: some file systems report only at the close what they lost.
abbrev pub content : List Event → ℕ → Content
content [] k = Anything
content (Did Close ∷ log) k = cond (nat_eq (suc k) (made log)) (synced log) (content log k)
content (Did call ∷ log) k = content log k
content (Refused call ∷ log) k = content log k
content (Skipped ∷ log) k = content log k
