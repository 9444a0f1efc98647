-- `line_text`, `lines_text`, `manifest_text`: the text of a line, of lines, and of a manifest.
-- `IsSpelled`: the fields of a line can be spelled, and the line has exactly the fields that its
-- word requires. `AreTaken`: all lines can be spelled, and the grammar accepts each line after the
-- lines before it. `as_read`: the lines that are read back. (This project's own.)
use Rattle.std.specs.Prelude.{◌≡◌, ℕ, ◌+◌, ◌^◌, ◌<◌, List, [], ◌∷◌, ◌++◌, false, codes, decimal}
use Rattle.std.specs.Prelude.{None}
use Rattle.std.specs.List.{All, join_with_byte}
use Rattle.manifest.specs.Texts.{is_bad}
use Rattle.manifest.specs.Lines.{ManifestLines}
use Rattle.manifest.specs.Grammar.{fault_of}
use Rattle.manifest.specs.declared.line.Line.{Line}
use Rattle.manifest.specs.declared.line.Word.{Word}
use Rattle.manifest.specs.declared.line.Word.TheVariants.{Dir, File, Slink, Block, Character, Fifo}
use Rattle.manifest.specs.declared.line.Word.TheVariants.{Socket, Hard, Same}
use Rattle.rom_fields.specs.Texts.{escaped, octal}

-- PATH MODE UID GID
abbrev pub attributes : Line → List (List ℕ)
attributes l = escaped l.path ∷ octal l.mode ∷ decimal l.uid ∷ decimal l.gid ∷ []

-- nod PATH MODE UID GID, then b or c, and the numbers of a device
abbrev pub device_texts : List ℕ → Line → List (List ℕ)
device_texts letter l =
    (codes "nod" ∷ attributes l) ++ letter ∷ decimal l.major ∷ decimal l.minor ∷ []

-- the texts of the fields that a word has
abbrev pub texts_by : Word → Line → List (List ℕ)
texts_by Dir l = (codes "dir" ∷ attributes l)
texts_by File l = (codes "file" ∷ attributes l) ++ decimal l.align ∷ escaped l.text ∷ []
texts_by Slink l = (codes "slink" ∷ attributes l) ++ escaped l.text ∷ []
texts_by Block l = device_texts (codes "b") l
texts_by Character l = device_texts (codes "c") l
texts_by Fifo l = (codes "pipe" ∷ attributes l)
texts_by Socket l = (codes "sock" ∷ attributes l)
texts_by Hard l = codes "hard" ∷ escaped l.path ∷ escaped l.text ∷ []
texts_by Same l = (codes "same" ∷ attributes l) ++ escaped l.text ∷ []

-- The text of a line: the texts of its fields, between single spaces. The line's number is not in
-- it.
unfoldable pub line_text : Line → List ℕ
line_text l = join_with_byte 32 (texts_by l.word l)

-- each line with its line feed
abbrev pub lines_text : List Line → List ℕ
lines_text [] = []
lines_text (l ∷ ls) = (line_text l ++ codes "\n") ++ lines_text ls

-- volume NAME
unfoldable pub volume_text : List ℕ → List ℕ
volume_text name = codes "volume " ++ escaped name

-- the line that names the volume, if it has a name
abbrev pub volume_line : List ℕ → List ℕ
volume_line [] = []
volume_line (b ∷ bs) = volume_text (b ∷ bs) ++ codes "\n"

-- the text of a manifest: the volume's line, and the others behind it
abbrev pub manifest_text : List ℕ → List Line → List ℕ
manifest_text volume ls = volume_line volume ++ lines_text ls

-- the same line with the number n
abbrev pub numbered : ℕ → Line → Line
numbered n l = record {
  number = n;
  word = l.word;
  path = l.path;
  mode = l.mode;
  uid = l.uid;
  gid = l.gid;
  align = l.align;
  major = l.major;
  minor = l.minor;
  text = l.text;
}

-- the same lines, numbered from n on
abbrev pub numbered_from : ℕ → List Line → List Line
numbered_from n [] = []
numbered_from n (l ∷ ls) = numbered n l ∷ numbered_from (n + 1) ls

-- the number of the volume's line, or 0 if there is none; the number of the line behind it
abbrev pub volume_number : List ℕ → ℕ
volume_number [] = 0
volume_number (b ∷ bs) = 1

abbrev pub first_number : List ℕ → ℕ
first_number volume = volume_number volume + 1

-- the manifest that is read from these lines, behind the volume's
abbrev pub as_read : List ℕ → List Line → ManifestLines
as_read volume ls = record {
  lines = numbered_from (first_number volume) ls;
  volume = volume;
  volume_line = volume_number volume;
}

-- A field that a word lacks is 0 or empty. A SOURCE and a TARGET have at least one byte, since no
-- field is empty.
abbrev pub HasOnly : Word → Line → Type 0
HasOnly Dir l = (l.align ≡ 0) × (l.major ≡ 0) × (l.minor ≡ 0) × (l.text ≡ [])
HasOnly File l = (l.major ≡ 0) × (l.minor ≡ 0) × (l.text ≡ [] → ⊥)
HasOnly Slink l = (l.align ≡ 0) × (l.major ≡ 0) × (l.minor ≡ 0) × (l.text ≡ [] → ⊥)
HasOnly Block l = (l.align ≡ 0) × (l.text ≡ [])
HasOnly Character l = (l.align ≡ 0) × (l.text ≡ [])
HasOnly Fifo l = (l.align ≡ 0) × (l.major ≡ 0) × (l.minor ≡ 0) × (l.text ≡ [])
HasOnly Socket l = (l.align ≡ 0) × (l.major ≡ 0) × (l.minor ≡ 0) × (l.text ≡ [])
HasOnly Hard l =
    (l.mode ≡ 0) × (l.uid ≡ 0) × (l.gid ≡ 0) × (l.align ≡ 0) × (l.major ≡ 0) × (l.minor ≡ 0)
HasOnly Same l = (l.align ≡ 0) × (l.major ≡ 0) × (l.minor ≡ 0)

-- The fields of a line can be spelled: texts of bytes, a mode of four octal digits, other numbers
-- of 32 bits, and exactly the fields that its word has.
pub record IsSpelled (l : Line) : Type 0 where
  pub path : All (λ b. b < 256) l.path
  pub text : All (λ b. b < 256) l.text
  pub mode : l.mode < 4096
  pub uid : l.uid < 2 ^ 32
  pub gid : l.gid < 2 ^ 32
  pub align : l.align < 2 ^ 32
  pub major : l.major < 2 ^ 32
  pub minor : l.minor < 2 ^ 32
  pub only : HasOnly l.word l

-- Each line can be spelled, and the grammar finds no fault in it as line n. The lines before it are
-- in reverse order. So each path is valid, its parent and its OLD come before it, no path occurs
-- twice, and each alignment is valid.
abbrev pub AreTaken : List Line → ℕ → List Line → Type 0
AreTaken latest n [] = Unit {0}
AreTaken latest n (l ∷ ls) =
    IsSpelled l × (fault_of latest (numbered n l) ≡ None)
    × AreTaken (numbered n l ∷ latest) (n + 1) ls

-- The name of a volume: at most 255 bytes, none of them 0. An empty name means no name, and has no
-- line.
pub record IsVolume (name : List ℕ) : Type 0 where
  pub bytes : All (λ b. b < 256) name
  pub good : is_bad 255 name ≡ false
