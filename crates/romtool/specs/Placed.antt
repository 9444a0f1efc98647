-- `IsPlacedAs`: how a file got an image. (This project's own.)
use Rattle.std.specs.Prelude.{List, Bool, true, false}
use Rattle.atomic_file.specs.Accounts.{log_of}
use Rattle.atomic_file.specs.Log.{Event}
use Rattle.system_files.specs.declared.target.Opened.{Opened}
use Rattle.system_files.specs.declared.target.Opened.TheVariants.{Part, Straight, Nothing}
use Rattle.romtool.specs.declared.placed.Placed.{Placed}
use Rattle.romtool.specs.declared.placed.Placed.TheVariants.{Renamed, Written}

-- a part got the name of the file, and this holds of the log of the calls
abbrev pub IsRenamedAs : (List Event → Type 0) → Placed → Type 0
IsRenamedAs IsLog (Renamed account) = IsLog (log_of account)
IsRenamedAs IsLog (Written durability) = ⊥

-- the file was written in place, and this holds
abbrev pub IsWrittenAs : Type 0 → Placed → Type 0
IsWrittenAs holds (Renamed account) = ⊥
IsWrittenAs holds (Written durability) = holds

-- whether a part is written
abbrev pub is_part : Opened → Bool
is_part (Part part) = true
is_part (Straight writer) = false
is_part Nothing = false

-- a part got the name of the file, or another file was written in place
abbrev pub IsPlacedAs : Bool → (List Event → Type 0) → Type 0 → Placed → Type 0
IsPlacedAs true IsLog holds p = IsRenamedAs IsLog p
IsPlacedAs false IsLog holds p = IsWrittenAs holds p
