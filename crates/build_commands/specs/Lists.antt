-- What lists say beside the files that were found: files that are added, each as a line of a
-- manifest, and attributes that are set. `Gives`: an answer is the one that is meant, if memory
-- was not refused. (This project's own.)
use Rattle.std.specs.Prelude.{◌≡◌, ℕ, ◌^◌, nat_lt, false, if◌then◌else◌}
use Rattle.std.specs.Prelude.{List, [], ◌∷◌, ◌++◌, length, map, Result, Ok, Err, string_bytes, ⊤}
use Rattle.std.specs.Str.{is_utf8}
use Rattle.manifest.specs.FaultNumbers.{BAD_NUMBER, BAD_PATH}
use Rattle.manifest.specs.declared.error.ManifestError.{ManifestError}
use Rattle.manifest.specs.declared.error.ManifestError.TheVariants as grammar
use Rattle.manifest.specs.declared.line.Line.{Line}
use Rattle.build_commands.specs.Inventory.{found_line}
use Rattle.build_commands.specs.declared.inventory.NamedFile.{NamedFile}
use Rattle.build_commands.specs.declared.listing.BadLine.{BadLine}
use Rattle.build_commands.specs.declared.listing.ListError.{ListError}
use Rattle.build_commands.specs.declared.listing.ListError.TheVariants as error
use Rattle.build_commands.specs.declared.listing.Listing.{Listing}
use Rattle.build_commands.specs.declared.listing.Why.{Why}
use Rattle.build_commands.specs.declared.listing.Why.TheVariants as why
use Rattle.build_commands.specs.declared.rights.Attributes.{Attributes}
use Rattle.build_commands.specs.declared.rights.Change.{Change}

-- attributes that a line sets for the file at a path
pub record Setting : Type 0 where
  pub line : ℕ
  pub path : List ℕ
  pub attributes : Attributes

abbrev pub setting_of : Change → Setting
setting_of c = record { line = c.line; path = string_bytes c.path; attributes = c.attributes }

-- the line of a file that the line of some number makes
abbrev pub line_of : NamedFile → Line
line_of f = record (found_line f) { number = f.inode.number }

-- what lines say
pub record Said : Type 0 where
  pub files : List Line
  pub settings : List Setting

abbrev pub said : Listing → Said
said l = record { files = map line_of l.files.items; settings = map setting_of l.changes.items }

abbrev pub nothing_said : Said
nothing_said = record { files = []; settings = [] }

abbrev pub bad : {X : Type 0} → ℕ → ℕ → Why → Result X BadLine
bad n k w = Err (record { line = n; number = k; why = w })

-- all lists make at most 1,048,576 files
abbrev pub with_file : Said → Line → Result Said BadLine
with_file s l =
    if nat_lt (length s.files) (2 ^ 20)
    then Ok (record s { files = s.files ++ l ∷ [] })
    else bad l.number BAD_NUMBER why.Many

abbrev pub with_setting : Said → Setting → Said
with_setting s c = record s { settings = s.settings ++ c ∷ [] }

-- A file that no other name leads to, and that is on no device.
abbrev pub IsNew : NamedFile → Type 0
IsNew f = (f.has_links ≡ false) × (f.inode.device ≡ 18446744073709551615)

-- a text of a line, which has to be UTF-8
abbrev pub text_in : ℕ → List ℕ → Result (List ℕ) BadLine
text_in n text = if is_utf8 text then Ok text else bad n BAD_PATH why.Text

-- the fault of a manifest's line, for this reason
abbrev pub by_grammar : Why → ManifestError → ListError
by_grammar w grammar.OutOfMemory = error.OutOfMemory
by_grammar w (grammar.Bad line number) =
    error.Bad (record { line = line; number = number; why = w })

-- the answer of a call, if memory was not refused
abbrev pub Fails : {X : Type 0} → ListError → Result X BadLine → Type 0
Fails error.OutOfMemory meant = ⊤
Fails (error.Bad b) meant = meant ≡ Err b

abbrev pub Gives : {X Y : Type 0} → (X → Y) → Result X ListError → Result Y BadLine → Type 0
Gives view (Ok x) meant = meant ≡ Ok (view x)
Gives view (Err e) meant = Fails e meant
