-- `Told`: the bytes that a read of a file told, with the name by which it was opened and their
-- offset. `Tells`: these were added to a log. `IsLogOf`: the log of the files of these names, by
-- their numbers. `contents_of_all`: what the files of these names hold.
-- `AreOfNames`: what was told is of files that hold their names. (This project's own.)
use Rattle.std.specs.Prelude.{◌≡◌, ℕ, List, [], ◌∷◌, ◌++◌, map, take, drop, length, get_or}
use Rattle.std.specs.Prelude.{Option, option_map, Result, Ok, Err}
use Rattle.image_stream.specs.Answers.{Answer}

-- the bytes that a read of a file told, the name by which it was opened, and their offset in it
pub record Told : Type 0 where
  pub name : List ℕ
  pub at : ℕ
  pub bytes : List ℕ

abbrev pub told : List ℕ → ℕ → List ℕ → Told
told name at bytes = record { name = name; at = at; bytes = bytes }

-- a read tells the bytes that it put into the buffer; a failed read tells nothing
abbrev pub told_by : {E : Type 0} → List ℕ → ℕ → Result ℕ E → List ℕ → List Told
told_by name at (Ok n) buf = told name at (take n buf) ∷ []
told_by name at (Err e) buf = []

-- a list that was possible as the log is possible now with these behind it
abbrev pub Tells : (List Told → Type 0) → (List Told → Type 0) → List Told → Type 0
Tells was is more = (log : List Told) → was log → is (log ++ more)

-- the name of the file of this number
abbrev pub name_at : List (List ℕ) → ℕ → List ℕ
name_at names file = get_or names file []

-- an answer of the file of a number, by the name of the file
abbrev pub told_of : List (List ℕ) → Answer → Told
told_of names a = told (name_at names a.file) a.at a.bytes

-- this may be the log of the files of these names
abbrev pub IsLogOf : List (List ℕ) → (List Told → Type 0) → List Answer → Type 0
IsLogOf names Is log = Is (map (told_of names) log)

-- the contents of the files of these names, if it is known what each name leads to
abbrev pub contents_of_all : Option (List ℕ → List ℕ) → List (List ℕ) → Option (List (List ℕ))
contents_of_all known names = option_map (λ f. map f names) known

-- the contents of the file of a name, if it is known what each name leads to
abbrev pub contents_of : Option (List ℕ → List ℕ) → List ℕ → Option (List ℕ)
contents_of known name = option_map (λ f. f name) known

-- each file holds its own name, and what was told is a part of it from the offset on
abbrev pub AreOfNames : List Told → Type 0
AreOfNames [] = Unit {0}
AreOfNames (t ∷ more) =
    (t.bytes ≡ take (length t.bytes) (drop t.at t.name)) × AreOfNames more
