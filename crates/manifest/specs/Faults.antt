-- `faults_of`: each bad line of a text, with its least fault behind the lines before it. A bad line
-- counts as one that makes its path, so that no line is bad because of another one's fault.
-- `passed`: what was read, after a bad line. (This project's own.)
use Rattle.std.specs.Prelude.{ℕ, ◌+◌, ◌||◌, if◌then◌else◌, List, [], ◌∷◌, ◌++◌, codes}
use Rattle.std.specs.Prelude.{Option, Some, None, Result, Ok, Err}
use Rattle.std.specs.Option.{is_some}
use Rattle.std.specs.Str.{bytes_eq}
use Rattle.percent_encoding.specs.Percent.{percent_decode}
use Rattle.manifest.specs.Texts.{pieces}
use Rattle.manifest.specs.Paths.{names_of, is_bad_path}
use Rattle.manifest.specs.Lines.{ManifestLines, is_dir, line_at}
use Rattle.manifest.specs.Grammar.{Fault, Seen, read, is_skipped, nothing_read}
use Rattle.manifest.specs.Reading.{reached}
use Rattle.manifest.specs.declared.line.Line.{Line}
use Rattle.manifest.specs.declared.line.Word.{Word}
use Rattle.manifest.specs.declared.line.Word.TheVariants.{Dir, File, Fifo}
use Rattle.manifest.specs.declared.reader.Reached.{Reached}
use Rattle.manifest.specs.declared.reader.Reached.TheVariants.{Directory, RegularFile, Other}

-- the first field, which is empty if there is none, and the others
abbrev pub first_of : List (List ℕ) → List ℕ
first_of [] = []
first_of (f ∷ fs) = f

abbrev pub others_of : List (List ℕ) → List (List ℕ)
others_of [] = []
others_of (f ∷ fs) = fs

-- what a bad `hard` line counts as: the kind of the file at its OLD, or a regular file
abbrev pub kind_or_file : Option Reached → Reached
kind_or_file None = RegularFile
kind_or_file (Some kind) = kind

-- the kind of file that a bad line counts as, by its first word
abbrev pub kind_of : List Line → List ℕ → List ℕ → Reached
kind_of latest w old =
    if bytes_eq w (codes "dir") then Directory
    else (if bytes_eq w (codes "file") then RegularFile
    else (if bytes_eq w (codes "same") then RegularFile
    else (if bytes_eq w (codes "hard") then kind_or_file (reached latest old) else Other)))

abbrev pub word_of_kind : Reached → Word
word_of_kind Directory = Dir
word_of_kind RegularFile = File
word_of_kind Other = Fifo

-- a line that makes a path
abbrev pub making : ℕ → Reached → List ℕ → Line
making n kind path = record {
  number = n;
  word = word_of_kind kind;
  path = path;
  mode = 0;
  uid = 0;
  gid = 0;
  align = 0;
  major = 0;
  minor = 0;
  text = [];
}

-- the lines, in reverse order, and one more, unless its path is none or an earlier line has it
abbrev pub counted : List Line → Line → List Line
counted latest l =
    if is_bad_path (is_dir l.word) (names_of l.path) || is_some (line_at latest l.path) then latest
    else l ∷ latest

-- what was read, after a bad line with these three fields
abbrev pub passed_path : Seen → ℕ → List ℕ → List ℕ → List ℕ → Seen
passed_path s n w path old = record {
  latest = counted s.latest
      (making n (kind_of s.latest w (percent_decode old)) (percent_decode path));
  volume = s.volume;
  volume_line = s.volume_line;
}

abbrev pub passed_by : Seen → ℕ → List ℕ → List ℕ → List ℕ → Seen
passed_by s n w path old =
    if bytes_eq w (codes "volume")
    then record { latest = s.latest; volume = s.volume; volume_line = n }
    else passed_path s n w path old

-- what was read, after a bad line
abbrev pub passed : Seen → ℕ → List ℕ → Seen
passed s n line =
    passed_by s n (first_of (pieces 32 line)) (first_of (others_of (pieces 32 line)))
    (first_of (others_of (others_of (pieces 32 line))))

-- the fault of a line, if it has one
abbrev pub told : Result Seen Fault → List Fault
told (Ok s) = []
told (Err e) = e ∷ []

-- what was read, after a line that is not skipped
abbrev pub after_read : Seen → ℕ → List ℕ → Result Seen Fault → Seen
after_read s n line (Ok t) = t
after_read s n line (Err e) = passed s n line

-- the fault of any line, if it has one, and what was read after it
abbrev pub line_faults : Seen → ℕ → List ℕ → List Fault
line_faults s n line = if is_skipped line then [] else told (read s n line)

abbrev pub after_line : Seen → ℕ → List ℕ → Seen
after_line s n line = if is_skipped line then s else after_read s n line (read s n line)

-- the faults of the lines from line n on; skipped lines count
abbrev pub faults_from : Seen → ℕ → List (List ℕ) → List Fault
faults_from s n [] = []
faults_from s n (l ∷ ls) = line_faults s n l ++ faults_from (after_line s n l) (n + 1) ls

unfoldable pub faults_of : List ℕ → List Fault
faults_of text = faults_from nothing_read 1 (pieces 10 text)

-- the first of some faults, and the fault of a text that is no manifest
abbrev pub first_fault : List Fault → Option Fault
first_fault [] = None
first_fault (e ∷ es) = Some e

abbrev pub fault_in : Result ManifestLines Fault → Option Fault
fault_in (Ok m) = None
fault_in (Err e) = Some e
