-- `line_alone`: a line by itself, as a line of a path, or its least fault. `own_fault`: the least
-- fault that a line has whatever lines are before it, from `BAD_PATH` on. (This project's own.)
use Rattle.std.specs.Prelude.{ℕ, ◌||◌, ◌&&◌, not, if◌then◌else◌, List, Option, Some, None}
use Rattle.std.specs.Prelude.{Result, Ok}
use Rattle.std.specs.List.{list_any}
use Rattle.manifest.specs.Texts.{pieces, is_empty}
use Rattle.manifest.specs.Paths.{names_of, is_bad_path}
use Rattle.manifest.specs.Lines.{is_dir, is_file}
use Rattle.manifest.specs.Grammar.{Fault, Fields, fault, fields_of, line_of, is_bad_text, is_align}
use Rattle.manifest.specs.declared.line.Line.{Line}
use Rattle.manifest.specs.FaultNumbers.{BAD_WORD, BAD_NUMBER, BAD_PATH, BAD_ALIGN}

abbrev pub own_fault : Line → Option ℕ
own_fault l =
    if is_bad_path (is_dir l.word) (names_of l.path) || is_bad_text l.word l.text then Some BAD_PATH
    else (if is_file l.word && not (is_align l.align) then Some BAD_ALIGN else None)

abbrev pub sound_alone : ℕ → Line → Option ℕ → Result Line Fault
sound_alone n l (Some k) = fault n k
sound_alone n l None = Ok l

abbrev pub numbers_alone : ℕ → Option Line → Result Line Fault
numbers_alone n None = fault n BAD_NUMBER
numbers_alone n (Some l) = sound_alone n l (own_fault l)

abbrev pub fields_alone : ℕ → Option Fields → Result Line Fault
fields_alone n None = fault n BAD_WORD
fields_alone n (Some f) = numbers_alone n (line_of n f)

-- Line n, as the grammar's `read` without what the lines before it decide. A `volume` line makes no
-- path, so its word is unknown here.
unfoldable pub line_alone : ℕ → List ℕ → Result Line Fault
line_alone n line =
    if list_any is_empty (pieces 32 line) then fault n BAD_WORD
    else fields_alone n (fields_of (pieces 32 line))
