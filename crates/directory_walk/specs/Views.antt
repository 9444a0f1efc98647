-- What the code lists and finds, as names of a tree. `IsListing`: what is listed of a directory.
-- `IsRefusal`: an error is one that the lister gave. (This project's own.)
use Rattle.std.specs.Prelude.{◌≡◌, ℕ, List, Option, map, ⊤, string_bytes, is_some}
use Rattle.directory_walk.specs.Trees.{Name, name, Tree, Top, IsReached, level}
use Rattle.directory_walk.specs.declared.lister.Directory.{Directory}
use Rattle.directory_walk.specs.declared.lister.Entry.{Entry}
use Rattle.directory_walk.specs.declared.lister.Listed.{Listed}
use Rattle.directory_walk.specs.declared.walking.WalkError.{WalkError}
use Rattle.directory_walk.specs.declared.walking.WalkError.TheVariants.{OutOfMemory, Refused}

abbrev pub listed_name : {T S : Type 0} → Listed T S → Name T
listed_name l = name (string_bytes l.path) l.known (is_some l.state)

abbrev pub listed_names : {T S : Type 0} → List (Listed T S) → List (Name T)
listed_names {T} {S} ls = map (λ (l : Listed T S). listed_name l) ls

-- these are exactly what is in the directory of this path, which has this in it
abbrev pub IsListing : {T S : Type 0} → List ℕ → Tree T → List (Listed T S) → Type 0
IsListing path g ls = listed_names ls ≡ level path g

abbrev pub names_of : {T : Type 0} → List (Entry T) → List (Name T)
names_of {T} es = map (λ (e : Entry T). name (string_bytes e.path) e.known e.is_entered) es

abbrev pub paths_of : {S : Type 0} → List (Directory S) → List (List ℕ)
paths_of {S} ds = map (λ (d : Directory S). string_bytes d.path) ds

-- an error is one that was given for the directory of its path, which the walk reached; or memory
-- was refused
abbrev pub IsRefusal : {T E : Type 0} → Option (Top T) → (List ℕ → E → Type 0) → WalkError E
    → Type 0
IsRefusal known gave (Refused r) =
    IsReached known (string_bytes r.path) × gave (string_bytes r.path) r.error
IsRefusal known gave OutOfMemory = ⊤
