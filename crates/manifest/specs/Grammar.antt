-- `fields_of`, `line_of`: the fields and the numbers of a line. `fault_of`: the least fault of a
-- line that follows the given lines. `read`: what is read so far, after one more line.
-- `manifest_of`: the lines of a text, or its first fault. `IsManifest`: this is the manifest of
-- some text. (This project's own, except the words `dir`, `file`, `slink`, `nod`, `pipe` and
-- `sock`, which are those of gen_init_cpio, Linux usr/gen_init_cpio.c.)
use Rattle.std.specs.Prelude.{◌≡◌, ℕ, ◌+◌, ◌==◌, ◌||◌, ◌&&◌, not, Bool, true, false, if◌then◌else◌}
use Rattle.std.specs.Prelude.{List, [], ◌∷◌, reverse, codes, Option, Some, None, Result, Ok, Err}
use Rattle.std.specs.List.{list_any}
use Rattle.std.specs.Option.{is_some, option_map}
use Rattle.std.specs.Str.{bytes_eq}
use Rattle.percent_encoding.specs.Percent.{percent_decode}
use Rattle.manifest.specs.Texts.{pieces, is_empty, octal, decimal, is_bad}
use Rattle.manifest.specs.Paths.{names_of, is_bad_path, parent_of}
use Rattle.manifest.specs.Lines.{ManifestLines, is_dir, is_file, line_at, led, filed}
use Rattle.manifest.specs.declared.numbers.Numbers.{Numbers}
use Rattle.manifest.specs.declared.line.Line.{Line}
use Rattle.manifest.specs.declared.line.Word.{Word}
use Rattle.manifest.specs.declared.line.Word.TheVariants.{Dir, File, Slink, Block, Character, Fifo}
use Rattle.manifest.specs.declared.line.Word.TheVariants.{Socket, Hard, Same}
use Rattle.manifest.specs.FaultNumbers.{BAD_WORD, BAD_NUMBER, BAD_PATH, NO_PARENT, EXISTS}
use Rattle.manifest.specs.FaultNumbers.{BAD_ALIGN, BAD_TARGET}

-- a fault: the number of its line, from 1 on, and its own number
pub record Fault : Type 0 where
  pub line : ℕ
  pub number : ℕ

-- The texts of a line's fields. A field that the word lacks is `0` for a number, `0000` for the
-- mode, and otherwise empty.
pub record Fields : Type 0 where
  pub word : Word
  pub path : List ℕ
  pub mode : List ℕ
  pub uid : List ℕ
  pub gid : List ℕ
  pub align : List ℕ
  pub major : List ℕ
  pub minor : List ℕ
  pub text : List ℕ

abbrev pub no_mode : List ℕ
no_mode = codes "0000"

abbrev pub zero_text : List ℕ
zero_text = codes "0"

-- the fields of a line that does not make a device
abbrev pub plain_fields : Word → List ℕ → List ℕ → List ℕ → List ℕ → List ℕ → List ℕ → Fields
plain_fields w path mode uid gid align text = record {
  word = w;
  path = path;
  mode = mode;
  uid = uid;
  gid = gid;
  align = align;
  major = zero_text;
  minor = zero_text;
  text = text;
}

abbrev pub device_fields : Word → List ℕ → List ℕ → List ℕ → List ℕ → List ℕ → List ℕ → Fields
device_fields w path mode uid gid major minor = record {
  word = w;
  path = path;
  mode = mode;
  uid = uid;
  gid = gid;
  align = zero_text;
  major = major;
  minor = minor;
  text = [];
}

-- `hard PATH OLD`
abbrev pub three_fields : List ℕ → List ℕ → List ℕ → Option Fields
three_fields w path old =
    if bytes_eq w (codes "hard")
    then Some (plain_fields Hard path no_mode zero_text zero_text zero_text old) else None

-- `dir`, `pipe` or `sock`, then PATH MODE UID GID
abbrev pub five_fields : List ℕ → List ℕ → List ℕ → List ℕ → List ℕ → Option Fields
five_fields w path mode uid gid =
    if bytes_eq w (codes "dir") then Some (plain_fields Dir path mode uid gid zero_text [])
    else (if bytes_eq w (codes "pipe") then Some (plain_fields Fifo path mode uid gid zero_text [])
    else (if bytes_eq w (codes "sock")
    then Some (plain_fields Socket path mode uid gid zero_text [])
    else None))

-- `slink PATH MODE UID GID TARGET`, or `same PATH MODE UID GID OLD`
abbrev pub six_fields : List ℕ → List ℕ → List ℕ → List ℕ → List ℕ → List ℕ → Option Fields
six_fields w path mode uid gid text =
    if bytes_eq w (codes "slink") then Some (plain_fields Slink path mode uid gid zero_text text)
    else (if bytes_eq w (codes "same")
    then Some (plain_fields Same path mode uid gid zero_text text)
    else None)

-- `file PATH MODE UID GID ALIGN SOURCE`
abbrev pub seven_fields : List ℕ → List ℕ → List ℕ → List ℕ → List ℕ → List ℕ → List ℕ
    → Option Fields
seven_fields w path mode uid gid align source =
    if bytes_eq w (codes "file") then Some (plain_fields File path mode uid gid align source)
    else None

-- the word of a device: `b` or `c`
abbrev pub device_word : List ℕ → Option Word
device_word letter =
    if bytes_eq letter (codes "b") then Some Block
    else (if bytes_eq letter (codes "c") then Some Character else None)

abbrev pub device : Option Word → List ℕ → List ℕ → List ℕ → List ℕ → List ℕ → List ℕ
    → Option Fields
device None path mode uid gid major minor = None
device (Some w) path mode uid gid major minor = Some (device_fields w path mode uid gid major minor)

-- `nod PATH MODE UID GID b|c MAJOR MINOR`
abbrev pub eight_fields : List ℕ → List ℕ → List ℕ → List ℕ → List ℕ → List ℕ → List ℕ → List ℕ
    → Option Fields
eight_fields w path mode uid gid letter major minor =
    if bytes_eq w (codes "nod") then device (device_word letter) path mode uid gid major minor
    else None

-- the fields of a line, by their count and its word; `volume` is read separately
abbrev pub fields_of : List (List ℕ) → Option Fields
fields_of [] = None
fields_of (w ∷ []) = None
fields_of (w ∷ a ∷ []) = None
fields_of (w ∷ a ∷ b ∷ []) = three_fields w a b
fields_of (w ∷ a ∷ b ∷ c ∷ []) = None
fields_of (w ∷ a ∷ b ∷ c ∷ d ∷ []) = five_fields w a b c d
fields_of (w ∷ a ∷ b ∷ c ∷ d ∷ e ∷ []) = six_fields w a b c d e
fields_of (w ∷ a ∷ b ∷ c ∷ d ∷ e ∷ f ∷ []) = seven_fields w a b c d e f
fields_of (w ∷ a ∷ b ∷ c ∷ d ∷ e ∷ f ∷ g ∷ []) = eight_fields w a b c d e f g
fields_of (w ∷ a ∷ b ∷ c ∷ d ∷ e ∷ f ∷ g ∷ h ∷ more) = None

-- `volume NAME`
abbrev pub volume_field : List (List ℕ) → Option (List ℕ)
volume_field [] = None
volume_field (w ∷ []) = None
volume_field (w ∷ name ∷ []) = if bytes_eq w (codes "volume") then Some name else None
volume_field (w ∷ name ∷ m ∷ more) = None

abbrev pub all_numbers : Option ℕ → Option ℕ → Option ℕ → Option ℕ → Option ℕ → Option ℕ
    → Option Numbers
all_numbers (Some mode) (Some uid) (Some gid) (Some align) (Some major) (Some minor) =
    Some (record { mode = mode; uid = uid; gid = gid; align = align; major = major; minor = minor })
all_numbers _ _ _ _ _ _ = None

-- the numbers of a line, if each text that should be a number is one
unfoldable pub numbers_of : Fields → Option Numbers
numbers_of f =
    all_numbers (octal f.mode) (decimal f.uid) (decimal f.gid) (decimal f.align) (decimal f.major)
    (decimal f.minor)

-- a line with its numbers, and its texts decoded
abbrev pub with_numbers : ℕ → Fields → Numbers → Line
with_numbers n f numbers = record {
  number = n;
  word = f.word;
  path = percent_decode f.path;
  mode = numbers.mode;
  uid = numbers.uid;
  gid = numbers.gid;
  align = numbers.align;
  major = numbers.major;
  minor = numbers.minor;
  text = percent_decode f.text;
}

abbrev pub line_of : ℕ → Fields → Option Line
line_of n f = option_map (with_numbers n f) (numbers_of f)

-- a TARGET that is too long or has a zero byte, or an OLD that is not a path or is the root
abbrev pub is_bad_text : Word → List ℕ → Bool
is_bad_text Slink t = is_bad 4095 t
is_bad_text Hard t = is_bad_path false (names_of t)
is_bad_text Same t = is_bad_path false (names_of t)
is_bad_text _ t = false

abbrev pub is_dir_line : Option Line → Bool
is_dir_line None = false
is_dir_line (Some l) = is_dir l.word

-- the parent is the root, or the path of an earlier `dir` line
abbrev pub has_parent : List Line → List ℕ → Bool
has_parent earlier parent = is_empty parent || is_dir_line (line_at earlier parent)

-- an alignment: a power of two from 4 to 65536
abbrev pub is_align : ℕ → Bool
is_align n =
    list_any (λ k. n == k)
    (4 ∷ 8 ∷ 16 ∷ 32 ∷ 64 ∷ 128 ∷ 256 ∷ 512 ∷ 1024 ∷ 2048 ∷ 4096 ∷ 8192 ∷ 16384 ∷ 32768 ∷ 65536
    ∷ [])

abbrev pub is_target : Option Line → Bool
is_target None = false
is_target (Some l) = not (is_dir l.word)

-- The OLD of `hard` leads to an earlier line that is not `dir`, and the OLD of `same` leads to a
-- regular file. The earlier lines are in reverse order.
abbrev pub has_target : List Line → Word → List ℕ → Bool
has_target latest Hard old = is_target (led latest old)
has_target latest Same old = is_some (filed latest old)
has_target latest _ old = true

-- the least fault of a line, from `BAD_PATH` on; the lines before it are in reverse order
unfoldable pub fault_of : List Line → Line → Option ℕ
fault_of latest l =
    if is_bad_path (is_dir l.word) (names_of l.path) || is_bad_text l.word l.text then Some BAD_PATH
    else (if not (has_parent latest (parent_of (names_of l.path))) then Some NO_PARENT
    else (if is_some (line_at latest l.path) then Some EXISTS
    else (if is_file l.word && not (is_align l.align) then Some BAD_ALIGN
    else (if not (has_target latest l.word l.text) then Some BAD_TARGET
    else None))))

-- what was read: the lines in reverse order, and the volume
pub record Seen : Type 0 where
  pub latest : List Line
  pub volume : List ℕ
  pub volume_line : ℕ

abbrev pub fault : {X : Type 0} → ℕ → ℕ → Result X Fault
fault n k = Err (record { line = n; number = k })

abbrev pub with_line : Seen → ℕ → Line → Option ℕ → Result Seen Fault
with_line s n l (Some k) = fault n k
with_line s n l None =
    Ok (record { latest = l ∷ s.latest; volume = s.volume; volume_line = s.volume_line })

abbrev pub read_numbers : Seen → ℕ → Option Line → Result Seen Fault
read_numbers s n None = fault n BAD_NUMBER
read_numbers s n (Some l) = with_line s n l (fault_of s.latest l)

abbrev pub read_fields : Seen → ℕ → Option Fields → Result Seen Fault
read_fields s n None = fault n BAD_WORD
read_fields s n (Some f) = read_numbers s n (line_of n f)

-- `volume`: the name has at most 255 bytes and no zero byte, and there is only one such line
abbrev pub read_volume : Seen → ℕ → List ℕ → Result Seen Fault
read_volume s n name =
    if is_bad 255 name then fault n BAD_PATH
    else (if s.volume_line == 0 then Ok
    (record { latest = s.latest; volume = name; volume_line = n })
    else fault n EXISTS)

abbrev pub read_by : Seen → ℕ → List (List ℕ) → Option (List ℕ) → Result Seen Fault
read_by s n fs (Some name) = read_volume s n (percent_decode name)
read_by s n fs None = read_fields s n (fields_of fs)

-- Line n, behind what was read. Its fields are between single spaces, and none is empty.
unfoldable pub read : Seen → ℕ → List ℕ → Result Seen Fault
read s n line =
    if list_any is_empty (pieces 32 line) then fault n BAD_WORD
    else read_by s n (pieces 32 line) (volume_field (pieces 32 line))

-- empty lines, and lines that begin with `#`
abbrev pub is_skipped : List ℕ → Bool
is_skipped [] = true
is_skipped (b ∷ bs) = b == 35

abbrev pub and_then : Result Seen Fault → (Seen → Result Seen Fault) → Result Seen Fault
and_then (Ok s) f = f s
and_then (Err e) f = Err e

-- the lines from line n on; skipped lines count
abbrev pub read_lines : Seen → ℕ → List (List ℕ) → Result Seen Fault
read_lines s n [] = Ok s
read_lines s n (l ∷ ls) =
    if is_skipped l then read_lines s (n + 1) ls
    else and_then (read s n l) (λ t. read_lines t (n + 1) ls)

abbrev pub as_manifest : Result Seen Fault → Result ManifestLines Fault
as_manifest (Ok s) =
    Ok (record { lines = reverse s.latest; volume = s.volume; volume_line = s.volume_line })
as_manifest (Err e) = Err e

abbrev pub nothing_read : Seen
nothing_read = record { latest = []; volume = []; volume_line = 0 }

-- A text is a manifest, or it has a first fault: the least fault of its first faulty line. Lines
-- end with a line feed. The piece behind the last line feed is an empty line, or a last line
-- without a line feed.
unfoldable pub manifest_of : List ℕ → Result ManifestLines Fault
manifest_of text = as_manifest (read_lines nothing_read 1 (pieces 10 text))

-- this is the manifest of some text
abbrev pub IsManifest : ManifestLines → Type 0
IsManifest m = (text : List ℕ) × (manifest_of text ≡ Ok m)
