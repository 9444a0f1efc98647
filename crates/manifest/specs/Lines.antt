-- `ManifestLines`: the lines of a manifest and its volume. `line_at`, `led`, `filed`: the line of a
-- path, the line to which it leads, and the `file` line whose contents it has. `sources_of`: the
-- sources in order. (This project's own.)
use Rattle.std.specs.Prelude.{ℕ, ◌||◌, Bool, true, false, if◌then◌else◌, List, [], ◌∷◌, map, filter}
use Rattle.std.specs.Prelude.{Option, Some, None}
use Rattle.std.specs.Str.{bytes_eq}
use Rattle.manifest.specs.declared.line.Line.{Line}
use Rattle.manifest.specs.declared.line.Word.{Word}
use Rattle.manifest.specs.declared.line.Word.TheVariants.{Dir, File, Hard, Same}

-- A manifest: its lines in order, the volume's name, and the number of the line that names it, or 0
-- if there is none.
pub record ManifestLines : Type 0 where
  pub lines : List Line
  pub volume : List ℕ
  pub volume_line : ℕ

abbrev pub is_dir : Word → Bool
is_dir Dir = true
is_dir _ = false

abbrev pub is_file : Word → Bool
is_file File = true
is_file _ = false

abbrev pub is_hard : Word → Bool
is_hard Hard = true
is_hard _ = false

abbrev pub is_same : Word → Bool
is_same Same = true
is_same _ = false

-- the first of some lines that has a path
abbrev pub line_at : List Line → List ℕ → Option Line
line_at [] path = None
line_at (l ∷ ls) path = if bytes_eq l.path path then Some l else line_at ls path

-- The line to which a path leads; the lines are in reverse order. A `hard` line leads to the line
-- to which its text leads among the lines before it. Any other line leads to itself.
abbrev pub led : List Line → List ℕ → Option Line
led [] path = None
led (l ∷ ls) path =
    if bytes_eq l.path path then (if is_hard l.word then led ls l.text else Some l) else led ls path

-- The `file` line whose contents a path has, if it leads to a regular file; the lines are in
-- reverse order. A `same` line has the contents of the file to which its text leads among the lines
-- before it.
abbrev pub filed : List Line → List ℕ → Option Line
filed [] path = None
filed (l ∷ ls) path =
    if bytes_eq l.path path
    then (if is_hard l.word || is_same l.word then filed ls l.text
    else (if is_file l.word then Some l else None))
    else filed ls path

-- the texts of the `file` lines, in order: the source that each names
abbrev pub sources_of : List Line → List (List ℕ)
sources_of ls = map (λ l. l.text) (filter (λ l. is_file l.word) ls)
