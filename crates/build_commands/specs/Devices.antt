-- A list of devices: its lines, after those that are skipped, are lines of a manifest that make a
-- file without contents, and `mode PATH MODE UID GID`, which sets attributes. (This project's own.)
use Rattle.std.specs.Prelude.{◌≡◌, ◌⊎◌, ⊤, ℕ, ◌+◌, ◌||◌, ◌&&◌, Bool, true, false, if◌then◌else◌}
use Rattle.std.specs.Prelude.{List, [], ◌∷◌, ◌++◌, codes, drop, map, Some, None, Result, Ok, Err}
use Rattle.std.specs.Borrow.{Bor}
use Rattle.std.specs.List.{All}
use Rattle.std.specs.Str.{bytes_eq, is_utf8}
use Rattle.manifest.specs.Alone.{line_alone}
use Rattle.manifest.specs.FaultNumbers.{BAD_WORD, BAD_PATH}
use Rattle.manifest.specs.Faults.{first_of}
use Rattle.manifest.specs.Grammar.{Fault, is_skipped}
use Rattle.manifest.specs.Texts.{pieces}
use Rattle.manifest.specs.declared.line.Line.{Line}
use Rattle.manifest.specs.declared.line.Word.{Word}
use Rattle.manifest.specs.declared.line.Word.TheVariants.{File, Slink, Block, Character}
use Rattle.manifest.specs.declared.line.Word.TheVariants.{Hard, Same}
use Rattle.build_commands.specs.Fitting.{first_unfit}
use Rattle.build_commands.specs.Inventory.{or_root}
use Rattle.build_commands.specs.Lists as lists
use Rattle.build_commands.specs.Lists.{IsNew, Said, Setting, bad, line_of, nothing_said}
use Rattle.build_commands.specs.Lists.{with_file, with_setting}
use Rattle.build_commands.specs.Overlay.{AreSorted, named}
use Rattle.build_commands.specs.declared.inventory.NamedFile.{NamedFile}
use Rattle.build_commands.specs.declared.listing.BadLine.{BadLine}
use Rattle.build_commands.specs.declared.listing.ListError.{ListError}
use Rattle.build_commands.specs.declared.listing.ListError.TheVariants as error
use Rattle.build_commands.specs.declared.listing.Listing.{Listing}
use Rattle.build_commands.specs.declared.listing.Why.{Why}
use Rattle.build_commands.specs.declared.listing.Why.TheVariants as why

abbrev pub word_of : List ℕ → List ℕ
word_of line = first_of (pieces 32 line)

-- the words of the lines that make a file
abbrev pub makes_file : List ℕ → Bool
makes_file w =
    bytes_eq w (codes "dir") || bytes_eq w (codes "slink") || bytes_eq w (codes "nod")
    || bytes_eq w (codes "pipe") || bytes_eq w (codes "sock")

-- the values that only some words have
abbrev pub as_device : Word → Line → Line
as_device Block l = l
as_device Character l = l
as_device _ l = record l { major = 0; minor = 0 }

abbrev pub as_link : Word → Line → Line
as_link Slink l = l
as_link _ l = record l { text = [] }

-- a line that makes a file without contents
abbrev pub without_contents : Line → Line
without_contents l =
    as_device l.word (as_link l.word (record l { path = or_root l.path; align = 0 }))

abbrev pub has_contents : Word → Bool
has_contents File = true
has_contents Hard = true
has_contents Same = true
has_contents _ = false

-- The file of a line; names and texts of links are UTF-8.
abbrev pub made : Line → Result Line BadLine
made l =
    if is_utf8 l.path && is_utf8 l.text
    then (if has_contents l.word then bad l.number BAD_WORD why.Word else Ok (without_contents l))
    else bad l.number BAD_PATH why.Text

-- how many bytes are in front of a path: the root's is empty
abbrev pub front_of : List ℕ → ℕ
front_of path = if bytes_eq path (47 ∷ []) then 1 else 0

-- the fault of a line, for this reason
abbrev pub told : Why → Result Line Fault → Result Line BadLine
told w (Ok l) = Ok l
told w (Err e) = bad e.line e.number w

abbrev pub made_by : Result Line BadLine → Result Line BadLine
made_by (Ok l) = made l
made_by (Err b) = Err b

-- line n, which makes a file
abbrev pub file_in : ℕ → List ℕ → Result Line BadLine
file_in n text = made_by (told why.Grammar (line_alone n text))

abbrev pub setting_of : Line → Result Setting BadLine
setting_of l =
    if is_utf8 l.path
    then Ok
    (record {
      line = l.number;
      path = l.path;
      attributes = record { mode = Some l.mode; uid = l.uid; gid = l.gid };
    })
    else bad l.number BAD_PATH why.Text

abbrev pub set_by : Result Line BadLine → Result Setting BadLine
set_by (Ok l) = setting_of l
set_by (Err b) = Err b

-- line n, which has the fields of `dir` behind `mode`
abbrev pub setting_in : ℕ → List ℕ → Result Setting BadLine
setting_in n text = set_by (told why.Mode (line_alone n (codes "dir" ++ drop 4 text)))

abbrev pub add_file : Said → Result Line BadLine → Result Said BadLine
add_file s (Ok l) = with_file s l
add_file s (Err b) = Err b

abbrev pub add_setting : Said → Result Setting BadLine → Result Said BadLine
add_setting s (Ok c) = Ok (with_setting s c)
add_setting s (Err b) = Err b

-- line n, behind what was said
unfoldable pub read_line : Said → ℕ → List ℕ → Result Said BadLine
read_line s n text =
    if bytes_eq (word_of text) (codes "mode") then add_setting s (setting_in n text)
    else (if makes_file (word_of text) then add_file s (file_in n text)
    else bad n BAD_WORD why.Word)

abbrev pub and_then : Result Said BadLine → (Said → Result Said BadLine) → Result Said BadLine
and_then (Ok s) f = f s
and_then (Err e) f = Err e

-- the lines from line n on; skipped lines count
abbrev pub read_lines : Said → ℕ → List (List ℕ) → Result Said BadLine
read_lines s n [] = Ok s
read_lines s n (l ∷ ls) =
    if is_skipped l then read_lines s (n + 1) ls
    else and_then (read_line s n l) (λ t. read_lines t (n + 1) ls)

-- what the lines of a text say, or the first that is refused by itself
unfoldable pub list_of : List ℕ → Result Said BadLine
list_of text = read_lines nothing_said 1 (pieces 10 text)

-- the words PATH, TYPE, MAJOR, MINOR and MODE of a device
abbrev pub DeviceWords : Type 0
DeviceWords =
    Bor (List ℕ) × Bor (List ℕ) × Bor (List ℕ) × Bor (List ℕ) × Bor (List ℕ)

-- their line
abbrev pub nod_line : DeviceWords → List ℕ
nod_line (path, kind, major, minor, mode) =
    codes "nod " ++ path.now ++ codes " " ++ mode.now ++ codes " 0 0 " ++ kind.now ++ codes " "
    ++ major.now ++ codes " " ++ minor.now ++ codes "\n"

-- the lines of several devices
abbrev pub nod_lines : List DeviceWords → List ℕ
nod_lines [] = []
nod_lines (d ∷ ds) = nod_line d ++ nod_lines ds

-- these files are those of the lines of a text, sorted by their paths; the changes are its settings
pub record AreOf (text : List ℕ) (said : Said) (l : Listing) : Type 0 where
  pub files : List NamedFile
  pub is : list_of text ≡ Ok said
  pub lines : map line_of files ≡ said.files
  pub new : All IsNew files
  pub settings : map lists.setting_of l.changes.items ≡ said.settings
  pub order : AreSorted l.files.items
  pub same : (path : List ℕ) → named path l.files.items ≡ named path files

-- what the lines of a text say, and each file fits
pub record IsListed (found : List NamedFile) (text : List ℕ) (l : Listing) : Type 0 where
  pub said : Said
  pub of : AreOf text said l
  pub fits : first_unfit found l.files.items ≡ None

-- the first line that is refused by itself; if there is none, the first that does not fit
pub record IsUnfit (found : List NamedFile) (text : List ℕ) (b : BadLine) : Type 0 where
  pub said : Said
  pub listing : Listing
  pub of : AreOf text said listing
  pub first : first_unfit found listing.files.items ≡ Some b

abbrev pub IsRefusal : List NamedFile → List ℕ → ListError → Type 0
IsRefusal found text error.OutOfMemory = ⊤
IsRefusal found text (error.Bad b) = (list_of text ≡ Err b) ⊎ IsUnfit found text b
