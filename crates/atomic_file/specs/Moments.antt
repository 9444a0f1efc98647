-- What is promised of each moment while a file is replaced, and of its end. The parameter `Image`
-- says that the bytes of a file, if they are known, are the new ones. (This project's own.)
use Rattle.std.specs.Prelude.{◌≡◌, ◌≢◌, ◌⊎◌, ◌<◌, ◌≤◌, ℕ, suc, List, Option}
use Rattle.atomic_file.specs.Log.{Remove, SyncDirectory, Event, Refused, Skipped, EndsBy}
use Rattle.atomic_file.specs.Crashes.{Place, Nothing, Made, Content, Anything, Whole}
use Rattle.atomic_file.specs.Crashes.{made, entry, MayLead, content}
use Rattle.atomic_file.specs.declared.directory.Durability.{Durability}
use Rattle.atomic_file.specs.declared.directory.Durability.TheVariants.{Durable, Unknown}
use Rattle.atomic_file.specs.declared.names.Names.{Names}

-- a name that the new file may have before it is whole
abbrev pub IsPart : Names → ℕ → Type 0
IsPart names n = (names.first ≤ n) × (n < names.end)

abbrev pub IsNoPart : Names → ℕ → Type 0
IsNoPart names n = IsPart names n → ⊥

-- a crash leaves exactly the new bytes
abbrev pub HoldsImage : (Option (List ℕ) → Type 0) → Content → Type 0
HoldsImage Image Anything = ⊥
HoldsImage Image (Whole known) = Image known

-- a file that was made since, with exactly the new bytes on the disk
abbrev pub IsNew : (Option (List ℕ) → Type 0) → List Event → List Event → Place → Type 0
IsNew Image old log p =
    (k : ℕ) × (made old ≤ k) × (p ≡ Made k) × HoldsImage Image (content log k)

-- At this moment OUT leads to what it did, or to the new file, whole. A crash leaves what it might
-- have left before, or the new file, whole. No other name is touched except those of parts, and no
-- file that was made before.
pub record IsOldOrNew (names : Names) (Image : Option (List ℕ) → Type 0)
    (old log : List Event) : Type 0 where
  pub seen : (entry log names.out ≡ entry old names.out) ⊎ IsNew Image old log (entry log names.out)
  pub crashed : (p : Place) → MayLead log names.out p
      → MayLead old names.out p ⊎ IsNew Image old log p
  pub others_seen : (n : ℕ) → n ≢ names.out → IsNoPart names n → entry log n ≡ entry old n
  pub others_crashed : (n : ℕ) (p : Place) → n ≢ names.out → IsNoPart names n → MayLead log n p
      → MayLead old n p
  pub files : (k : ℕ) → k < made old → content log k ≡ content old k

-- No name is touched except those of parts, so OUT is not, and no file that was made before.
pub record IsApart (names : Names) (old log : List Event) : Type 0 where
  pub seen : (n : ℕ) → IsNoPart names n → entry log n ≡ entry old n
  pub crashed : (n : ℕ) (p : Place) → IsNoPart names n → MayLead log n p → MayLead old n p
  pub files : (k : ℕ) → k < made old → content log k ≡ content old k
  pub grown : made old ≤ made log

-- a name leads to what it did, or to nothing
abbrev pub IsLeft : List Event → List Event → ℕ → Type 0
IsLeft old log n = (entry log n ≡ entry old n) ⊎ (entry log n ≡ Nothing)

-- there is no new part
pub record IsTried (names : Names) (old log : List Event) : Type 0 where
  pub apart : IsApart names old log
  pub parts : (n : ℕ) → IsPart names n → IsLeft old log n

-- the file that was made last is a new part of this name, and there is no other one
pub record IsBegun (names : Names) (name : ℕ) (old log : List Event) : Type 0 where
  pub apart : IsApart names old log
  pub is_part : IsPart names name
  pub number : ℕ
  pub last : made log ≡ suc number
  pub since : made old ≤ number
  pub leads : entry log name ≡ Made number
  pub others : (n : ℕ) → IsPart names n → n ≢ name → IsLeft old log n

-- OUT is the new file, whole, and there is no new part
pub record IsReplaced (names : Names) (Image : Option (List ℕ) → Type 0)
    (old log : List Event) : Type 0 where
  pub seen : IsNew Image old log (entry log names.out)
  pub no_part : (n : ℕ) → IsPart names n → IsLeft old log n

-- a crash leaves each name as it is seen, unless the directory cannot be synchronized
abbrev pub IsDurable : Durability → List Event → Type 0
IsDurable Durable log = (n : ℕ) (p : Place) → MayLead log n p → p ≡ entry log n
IsDurable Unknown log = EndsBy Skipped log

-- OUT is what it was, unless only the synchronization of the directory was refused; and there is no
-- new part, unless its removal was refused
pub record IsKept (names : Names) (Image : Option (List ℕ) → Type 0)
    (old log : List Event) : Type 0 where
  pub seen : (entry log names.out ≡ entry old names.out)
      ⊎ (IsNew Image old log (entry log names.out) × EndsBy (Refused SyncDirectory) log)
  pub no_part : (n : ℕ) → IsPart names n → IsLeft old log n ⊎ EndsBy (Refused (Remove n)) log
