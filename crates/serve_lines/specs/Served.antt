-- `lines_of`: an input cut into lines. `joined`: the reverse. `Machine`: the reply to a line and
-- the state after it. `exchanges`: lines with their replies. `served`, `finished`: the replies to
-- all lines, and to those that end with a line feed. `used`: the part of the input that is read.
-- `GoesOn`: no line ends the serving. `Flushes`: as many flushes succeeded as there are replies.
-- `Serves`, `Finishes`, `Breaks`: what was read, written and flushed, by how the serving ended.
-- `ReadsUpTo`: at most a number of bytes was read. `ForgetsLong`: bytes after the 8,192nd of a line
-- do not matter. (This project's own.)
use Rattle.std.specs.Prelude.{◌≡◌, ◌≤◌, ℕ, ◌-◌, Bool, false, if◌then◌else◌, ◌==◌, List, [], ◌∷◌}
use Rattle.std.specs.Prelude.{◌++◌, Option, length, take, IfSome}
use Rattle.std.specs.Io.KnownBytes.{Appends, Consumes}
use Rattle.std.specs.List.{list_any}
use Rattle.rom_fields.specs.Failures.{after_flushes}
use Rattle.rom_fields.specs.Written.{Output}

-- Lines.

abbrev pub line_feed : ℕ
line_feed = 10

-- a last line without a line feed counts if it is not empty
abbrev pub last_line : List ℕ → List (List ℕ)
last_line [] = []
last_line (b ∷ line) = (b ∷ line) ∷ []

-- the lines of a text, if `line` is the front of its first line
unfoldable pub lines_after : List ℕ → List ℕ → List (List ℕ)
lines_after line [] = last_line line
lines_after line (b ∷ x) =
    if b == line_feed then line ∷ lines_after [] x else lines_after (line ++ b ∷ []) x

-- a text cut at line feeds
abbrev pub lines_of : List ℕ → List (List ℕ)
lines_of x = lines_after [] x

-- the same without a last line that lacks a line feed
unfoldable pub whole_lines_after : List ℕ → List ℕ → List (List ℕ)
whole_lines_after line [] = []
whole_lines_after line (b ∷ x) =
    if b == line_feed then line ∷ whole_lines_after [] x else whole_lines_after (line ++ b ∷ []) x

abbrev pub whole_lines_of : List ℕ → List (List ℕ)
whole_lines_of x = whole_lines_after [] x

-- lines as a text, each with a line feed
abbrev pub joined : List (List ℕ) → List ℕ
joined [] = []
joined (l ∷ ls) = l ++ line_feed ∷ joined ls

-- Replies.

-- A machine of lines, with states S. It has the text of the reply to a line, the state after it,
-- and whether the line ends the serving.
pub record Machine (S : Type 0) : Type 0 where
  pub reply : S → List ℕ → List ℕ
  pub next : S → List ℕ → S
  pub ends : List ℕ → Bool

-- a line and the text of its reply
pub record Exchange : Type 0 where
  pub line : List ℕ
  pub reply : List ℕ

abbrev pub replies_text : List Exchange → List ℕ
replies_text [] = []
replies_text (e ∷ es) = e.reply ++ replies_text es

module _ {S : Type 0} where
  -- lines with their replies, up to and including the first line that ends the serving
  unfoldable pub exchanges : Machine S → S → List (List ℕ) → List Exchange
  exchanges m s [] = []
  exchanges m s (l ∷ ls) =
      record { line = l; reply = m.reply s l }
      ∷ (if m.ends l then [] else exchanges m (m.next s l) ls)

  -- the replies to the lines of x, if `line` is the front of its first line
  abbrev pub served_after : Machine S → S → List ℕ → List ℕ → List ℕ
  served_after m s line x = replies_text (exchanges m s (lines_after line x))

  -- what is written for the input x
  abbrev pub served : Machine S → S → List ℕ → List ℕ
  served m s x = served_after m s [] x

  -- the replies to the lines that end with a line feed
  abbrev pub finished_after : Machine S → S → List ℕ → List ℕ → List ℕ
  finished_after m s line x = replies_text (exchanges m s (whole_lines_after line x))

  abbrev pub finished : Machine S → S → List ℕ → List ℕ
  finished m s x = finished_after m s [] x

  -- x up to and including the line feed of the first line that ends the serving, if `line` is the
  -- front of its first line
  unfoldable pub used_after : Machine S → List ℕ → List ℕ → List ℕ
  used_after m line [] = []
  used_after m line (b ∷ x) =
      b ∷ (if b == line_feed
      then (if m.ends line then [] else used_after m [] x)
      else used_after m (line ++ b ∷ []) x)

  -- the part of the input x that is read
  abbrev pub used : Machine S → List ℕ → List ℕ
  used m x = used_after m [] x

-- The effect of serving: the rest of a reader was r₀ and is r, and the facts of a writer were w₀
-- and are w.

abbrev pub but_last : List ℕ → List ℕ
but_last y = take (length y - 1) y

abbrev pub IsFront : List ℕ → List ℕ → Type 0
IsFront front whole = (rest : List ℕ) × (whole ≡ front ++ rest)

-- at most n bytes were read
abbrev pub ReadsUpTo : ℕ → (r₀ r : Option (List ℕ)) → Type 0
ReadsUpTo n r₀ r = (y : List ℕ) × (length y ≤ n) × Consumes r₀ r y

module _ {S : Type 0} where
  -- none of these lines ends the serving
  abbrev pub GoesOn : Machine S → List (List ℕ) → Type 0
  GoesOn m ls = list_any m.ends ls ≡ false

  -- as many flushes were added as there are replies to these lines
  abbrev pub Flushes : Machine S → S → Output → Output → List (List ℕ) → Type 0
  Flushes m s w₀ w ls = w.flushes ≡ after_flushes w₀.flushes (length (exchanges m s ls))

  -- the used part of the input was read, and the replies were written, with as many flushes
  abbrev pub Serves : Machine S → S → (r₀ r : Option (List ℕ)) → (w₀ w : Output) → Type 0
  Serves m s r₀ r w₀ w =
      IfSome r₀ (λ x. Consumes r₀ r (used m x) × Appends w₀.contents w.contents (served m s x)
      × Flushes m s w₀ w (lines_of x))

  -- y was read and used. Exactly the replies to those of its lines that end with a line feed were
  -- written, with as many flushes, and none of these lines ends the serving.
  pub record Finishes (m : Machine S) (s : S) (r₀ r : Option (List ℕ)) (w₀ w : Output)
      (y : List ℕ) : Type 0 where
    pub read : Consumes r₀ r y
    pub uses : used m y ≡ y
    pub goes_on : GoesOn m (whole_lines_of y)
    pub wrote : Appends w₀.contents w.contents (finished m s y)
    pub flushed : Flushes m s w₀ w (whole_lines_of y)

  -- Some y was read and used, and `out` was written, which is a prefix of the replies to y. It
  -- holds the replies to all lines except the last one: to those whose line feed is before the last
  -- byte of y. As many flushes were added as there are such lines, and none of them ends the
  -- serving.
  pub record Breaks (m : Machine S) (s : S) (r₀ r : Option (List ℕ)) (w₀ w : Output) : Type 0 where
    pub y : List ℕ
    pub out : List ℕ
    pub read : Consumes r₀ r y
    pub uses : used m y ≡ y
    pub goes_on : GoesOn m (whole_lines_of (but_last y))
    pub wrote : Appends w₀.contents w.contents out
    pub front : IsFront out (served m s y)
    pub holds : IsFront (finished m s (but_last y)) out
    pub flushed : Flushes m s w₀ w (whole_lines_of (but_last y))

  -- bytes after the 8,192nd of a line do not matter
  pub record ForgetsLong (m : Machine S) : Type 0 where
    pub reply : (s : S) (line : List ℕ) → m.reply s (take 8192 line) ≡ m.reply s line
    pub next : (s : S) (line : List ℕ) → m.next s (take 8192 line) ≡ m.next s line
    pub ends : (line : List ℕ) → m.ends (take 8192 line) ≡ m.ends line

  -- the reply to a last line without a line feed
  abbrev pub last_reply : Machine S → S → List ℕ → List ℕ
  last_reply m s [] = []
  last_reply m s (b ∷ line) = m.reply s (b ∷ line)
