-- The lines of a manifest that a scan of a directory prints. (This project's own.)
use Rattle.std.specs.Prelude.{◌≡◌, ℕ, ◌+◌, ◌<◌, List, [], ◌∷◌, ◌++◌, codes, None}
use Rattle.std.specs.List.{All}
use Rattle.manifest.specs.Grammar.{fault_of}
use Rattle.manifest.specs.declared.line.Line.{Line}
use Rattle.manifest.specs.declared.line.Word.TheVariants.{Dir, File}
use Rattle.rom_fields.specs.Texts.{escaped}

-- dir PATH 0755 0 0, with the path escaped
unfoldable pub directory_text : List ℕ → List ℕ
directory_text path = codes "dir " ++ (escaped path ++ codes " 0755 0 0")

-- file PATH 0644 0 0 4 SOURCE, with both escaped
unfoldable pub file_text : List ℕ → List ℕ → List ℕ
file_text path source = codes "file " ++ (escaped path ++ (codes " 0644 0 0 4 " ++ escaped source))

-- the same as lines
abbrev pub directory_line : List ℕ → List ℕ
directory_line path = directory_text path ++ codes "\n"

abbrev pub file_line : List ℕ → List ℕ → List ℕ
file_line path source = file_text path source ++ codes "\n"

-- the directory of a path, with a mode
abbrev pub plain_of : List ℕ → ℕ → Line
plain_of path mode = record {
  number = 0;
  word = Dir;
  path = path;
  mode = mode;
  uid = 0;
  gid = 0;
  align = 0;
  major = 0;
  minor = 0;
  text = [];
}

-- the directory of a path, of mode 0755, as line n
abbrev pub directory_of : ℕ → List ℕ → Line
directory_of n path = record (plain_of path 493) { number = n }

-- the file of a path, of mode 0644 and aligned to 4, as line n
abbrev pub file_of : ℕ → List ℕ → List ℕ → Line
file_of n path source =
    record (plain_of path 420) { number = n; word = File; align = 4; text = source }

-- at least one byte
pub record IsName (bytes : List ℕ) : Type 0 where
  pub some : bytes ≡ [] → ⊥
  pub small : All (λ b. b < 256) bytes

-- what a scan finds: a directory, or a file with its source
pub data Entry : Type 0 where
  directory : List ℕ → Entry
  file : List ℕ → List ℕ → Entry

abbrev pub entry_line : Entry → List ℕ
entry_line (directory path) = directory_line path
entry_line (file path source) = file_line path source

-- what is printed of entries
abbrev pub scan_text : List Entry → List ℕ
scan_text [] = []
scan_text (e ∷ es) = entry_line e ++ scan_text es

abbrev pub line_as : ℕ → Entry → Line
line_as n (directory path) = directory_of n path
line_as n (file path source) = file_of n path source

-- the lines that entries have, from line n on
abbrev pub lines_as : ℕ → List Entry → List Line
lines_as n [] = []
lines_as n (e ∷ es) = line_as n e ∷ lines_as (n + 1) es

-- its names have at least one byte each
abbrev pub IsNamed : Entry → Type 0
IsNamed (directory path) = IsName path
IsNamed (file path source) = IsName path × IsName source

-- the grammar accepts each entry after the lines before it, which are given from the last to the
-- first
abbrev pub AreTaken : List Line → ℕ → List Entry → Type 0
AreTaken latest n [] = Unit {0}
AreTaken latest n (e ∷ es) =
    IsNamed e × (fault_of latest (line_as n e) ≡ None) × AreTaken (line_as n e ∷ latest) (n + 1) es
