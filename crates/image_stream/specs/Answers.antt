-- `Answer`: the bytes that a read answered, with their file and their offset in it. `Logs`: these
-- answers were added to a log. `LogsLast`: answers were added, and these are the last of them.
-- `AreReads`: answers of one file that follow one another, and their bytes. `IsImageRead`: an image
-- whose contents are the bytes of these answers, segment by segment. `AreOf`: answers are of these
-- contents. (This project's own.)
use Rattle.std.specs.Prelude.{◌≡◌, ℕ, ◌+◌, ◌-◌, List, [], ◌∷◌, ◌++◌, take, drop, length, Result, Ok}
use Rattle.std.specs.Prelude.{Err}
use Rattle.image_stream.specs.Sources.{content_of}
use Rattle.image_stream.specs.Segments.{Segment, fixed, content, place, len, zeros}

-- the bytes that a read of a file answered, and their offset in the file
pub record Answer : Type 0 where
  pub file : ℕ
  pub at : ℕ
  pub bytes : List ℕ

abbrev pub answer : ℕ → ℕ → List ℕ → Answer
answer file at bytes = record { file = file; at = at; bytes = bytes }

-- a read answers the bytes that it put into the buffer; a failed read answers nothing
abbrev pub answer_of : {E : Type 0} → ℕ → ℕ → Result ℕ E → List ℕ → List Answer
answer_of file at (Ok n) buf = answer file at (take n buf) ∷ []
answer_of file at (Err e) buf = []

-- a list that was possible as the log is possible now with these answers behind it
abbrev pub Logs : (List Answer → Type 0) → (List Answer → Type 0) → List Answer → Type 0
Logs was is answers = (log : List Answer) → was log → is (log ++ answers)

-- some answers were logged
abbrev pub Grew : (List Answer → Type 0) → (List Answer → Type 0) → Type 0
Grew was is = (answers : List Answer) × Logs was is answers

-- answers were logged, and these are the last of them
abbrev pub LogsLast : (List Answer → Type 0) → (List Answer → Type 0) → List Answer → Type 0
LogsLast was is answers = (earlier : List Answer) × Logs was is (earlier ++ answers)

-- each answer is of these contents
abbrev pub AreOf : List (List ℕ) → List Answer → Type 0
AreOf cs [] = Unit {0}
AreOf cs (a ∷ more) =
    (a.bytes ≡ take (length a.bytes) (drop a.at (content_of cs a.file))) × AreOf cs more

-- The answers are of one file. The first is from offset `at` on, and each other begins at the end
-- of the one before it. xs are their bytes, one after the other.
abbrev pub AreReads : ℕ → ℕ → List Answer → List ℕ → Type 0
AreReads file at [] xs = xs ≡ []
AreReads file at (a ∷ more) xs =
    (a.file ≡ file) × (a.at ≡ at)
    × ((rest : List ℕ) × AreReads file (at + length a.bytes) more rest × (xs ≡ a.bytes ++ rest))

-- the bytes of a segment: its own, for which nothing was read; or the answers of reads of its file
-- from offset 0 on
abbrev pub IsBodyRead : List Answer → Segment → List ℕ → Type 0
IsBodyRead answers (fixed at bytes) xs = (answers ≡ []) × (xs ≡ bytes)
IsBodyRead answers (content at size file) xs = (length xs ≡ size) × AreReads file 0 answers xs

-- The bytes from `at` to `end`, segment by segment, if these are the answers, in order. Each answer
-- is for one segment.
abbrev pub IsImageRead : List Answer → ℕ → List Segment → ℕ → List ℕ → Type 0
IsImageRead answers at [] end xs = (answers ≡ []) × (xs ≡ zeros (end - at))
IsImageRead answers at (p ∷ ps) end xs =
    (mine : List Answer) × (later : List Answer) × (body : List ℕ) × (rest : List ℕ)
    × (answers ≡ mine ++ later)
    × IsBodyRead mine p body × IsImageRead later (place p + len p) ps end rest
    × (xs ≡ zeros (place p - at) ++ (body ++ rest))
