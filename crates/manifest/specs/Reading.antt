-- `Gives`: an answer is the grammar's, if memory was not refused. `seen`, `seed_in`, `IsKept`,
-- `Adds`, `Reads`, `OnBad`: the values that the reader keeps between two lines, in the words of the
-- grammar.
-- (This project's own.)
use Rattle.std.specs.Prelude.{◌≡◌, ℕ, ◌||◌, Bool, true, false, if◌then◌else◌, List, ◌∷◌, reverse}
use Rattle.std.specs.Prelude.{Option, Some, None, Result, Ok, Err, Vec}
use Rattle.std.specs.Option.{is_some, option_map}
use Rattle.std.specs.HashMap.{get_by, hasher_of, HashMap}
use Rattle.std.specs.declared.hash.DefaultHasher.{DefaultHasher}
use Rattle.std.specs.Str.{bytes_eq}
use Rattle.manifest.specs.Lines.{is_dir, is_file, is_hard, is_same, line_at, led, filed, sources_of}
use Rattle.manifest.specs.Grammar.{Fault, Seen, is_target}
use Rattle.manifest.specs.Seeds.{seed_of}
use Rattle.manifest.specs.declared.line.Line.{Line}
use Rattle.manifest.specs.declared.error.ManifestError.{ManifestError}
use Rattle.manifest.specs.declared.error.ManifestError.TheVariants as error
use Rattle.manifest.specs.declared.reader.Reader.{Reader}
use Rattle.manifest.specs.declared.reader.Reached.{Reached}
use Rattle.manifest.specs.declared.reader.Reached.TheVariants.{Directory, RegularFile, Other}

-- The answer of a call, if memory was not refused: what was read, or its fault.
abbrev pub Fails : {X : Type 0} → ManifestError → Result X Fault → Type 0
Fails error.OutOfMemory read = Unit {0}
Fails (error.Bad line number) read = read ≡ Err (record { line = line; number = number })

abbrev pub Gives : {X : Type 0} → Result X ManifestError → Result X Fault → Type 0
Gives (Ok x) read = read ≡ Ok x
Gives (Err e) read = Fails e read

-- what was read
abbrev pub seen : Reader → Seen
seen r = record { latest = reverse r.lines.items; volume = r.volume; volume_line = r.volume_line }

-- the state with which the hashes of its paths begin
abbrev pub seed_in : Reader → DefaultHasher
seed_in r = seed_of (hasher_of r.paths)

-- the value of the map at a path
abbrev pub found : {A S : Type 0} → HashMap (Vec ℕ A) Reached S → List ℕ → Option Reached
found m path = get_by (λ k. bytes_eq path k.items) m

-- the map now has this value at a path, and its old values at other paths
abbrev pub HasMore : {A S : Type 0} → List ℕ → Reached → HashMap (Vec ℕ A) Reached S
    → HashMap (Vec ℕ A) Reached S → Type 0
HasMore path reached old new =
    (q : List ℕ) → found new q ≡ (if bytes_eq path q then Some reached else found old q)

-- the kind of file to which a line leads, by its word and by whether it has contents
abbrev pub reached_by : Line → Bool → Reached
reached_by l contents =
    if is_dir l.word then Directory else (if contents then RegularFile else Other)

-- the kind of file to which a path leads; the lines are in reverse order
abbrev pub reached : List Line → List ℕ → Option Reached
reached latest path =
    option_map (λ l. reached_by l (is_some (filed latest path))) (line_at latest path)

abbrev pub to_directory : Option Reached → Bool
to_directory None = false
to_directory (Some Directory) = true
to_directory (Some RegularFile) = false
to_directory (Some Other) = false

abbrev pub to_regular_file : Option Reached → Bool
to_regular_file None = false
to_regular_file (Some Directory) = false
to_regular_file (Some RegularFile) = true
to_regular_file (Some Other) = false

abbrev pub to_no_directory : Option Reached → Bool
to_no_directory None = false
to_no_directory (Some Directory) = false
to_no_directory (Some RegularFile) = true
to_no_directory (Some Other) = true

-- whether a line behind these has contents
abbrev pub has_contents : List Line → Line → Bool
has_contents latest l =
    if is_hard l.word || is_same l.word then is_some (filed latest l.text) else is_file l.word

abbrev pub is_no_directory : Option Line → Bool
is_no_directory None = false
is_no_directory (Some l) = if is_dir l.word then false else true

-- The map has the kind of file to which each path leads. A path leads to a file that is not a
-- directory exactly if it has a line that is not `dir`. The sources are those of the lines.
pub record IsKept (r : Reader) : Type 0 where
  pub paths : (path : List ℕ) → found r.paths path ≡ reached (reverse r.lines.items) path
  pub targets : (path : List ℕ)
      → is_target (led (reverse r.lines.items) path)
      ≡ is_no_directory (line_at (reverse r.lines.items) path)
  pub sources : r.sources.items ≡ sources_of r.lines.items

-- one more line was read
pub record Adds (old new : Reader) (l : Line) : Type 0 where
  pub seen : seen new
      ≡ record {
        latest = l ∷ reverse old.lines.items;
        volume = old.volume;
        volume_line = old.volume_line;
      }
  pub kept : IsKept new

-- the result of reading one line
abbrev pub Reads : Reader → Result Unit ManifestError → Result Seen Fault → Type 0
Reads new (Ok _) read = (read ≡ Ok (seen new)) × IsKept new
Reads new (Err e) read = Fails e read

-- what holds after a bad line
abbrev pub OnBad : Result Unit ManifestError → Type 0 → Type 0
OnBad (Ok _) P = Unit {0}
OnBad (Err error.OutOfMemory) P = Unit {0}
OnBad (Err (error.Bad line number)) P = P
