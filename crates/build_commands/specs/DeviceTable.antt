-- What the rows of a table add to the files that were found, and which attributes they set, one row
-- after the other. (Buildroot's manual, "Makedev syntax documentation".)
use Rattle.std.specs.Prelude.{◌≡◌, ◌⊎◌, ⊤, ℕ, zero, suc, ◌+◌, ◌-◌, ◌*◌, ◌^◌, ◌==◌, ◌||◌, ◌&&◌, max}
use Rattle.std.specs.Prelude.{not}
use Rattle.std.specs.Prelude.{nat_lt, Bool, true}
use Rattle.std.specs.Prelude.{false, if◌then◌else◌, List, [], ◌∷◌, ◌++◌, decimal, drop, length, map}
use Rattle.std.specs.Prelude.{take}
use Rattle.std.specs.Prelude.{unwrap_or, Option, Some, None, Result, Ok, Err}
use Rattle.std.specs.List.{list_any}
use Rattle.std.specs.Str.{bytes_eq, is_utf8}
use Rattle.manifest.specs.Alone.{own_fault}
use Rattle.manifest.specs.FaultNumbers.{BAD_WORD, BAD_NUMBER, BAD_PATH, EXISTS, BAD_TARGET}
use Rattle.manifest.specs.Lines.{is_dir}
use Rattle.manifest.specs.Texts.{is_empty, pieces}
use Rattle.manifest.specs.declared.line.Line.{Line}
use Rattle.manifest.specs.declared.line.Word.{Word}
use Rattle.manifest.specs.declared.line.Word.TheVariants.{Dir, Slink}
use Rattle.build_commands.specs.Devices.{made}
use Rattle.build_commands.specs.Fitting.{first_unfit, has_directory, holds, is_directory_in}
use Rattle.build_commands.specs.Inventory.{path_of}
use Rattle.build_commands.specs.Lists.{Setting, bad, line_of, setting_of}
use Rattle.build_commands.specs.Overlay.{AreLaid, AreSorted, IsMixed, is_directory, named}
use Rattle.build_commands.specs.Rights.{file_at}
use Rattle.build_commands.specs.TableRow.{Row, row_in, row_view, word_of_node}
use Rattle.build_commands.specs.declared.device_table.Made.{Made}
use Rattle.build_commands.specs.declared.device_table.Rows as code
use Rattle.build_commands.specs.declared.inventory.FileKind.{FileKind}
use Rattle.build_commands.specs.declared.inventory.FileKind.TheVariants as file
use Rattle.build_commands.specs.declared.inventory.NamedFile.{NamedFile}
use Rattle.build_commands.specs.declared.listing.BadLine.{BadLine}
use Rattle.build_commands.specs.declared.listing.ListError.{ListError}
use Rattle.build_commands.specs.declared.listing.ListError.TheVariants as error
use Rattle.build_commands.specs.declared.listing.Listing.{Listing}
use Rattle.build_commands.specs.declared.listing.Why.TheVariants as why
use Rattle.build_commands.specs.declared.table_row.Kind.{Kind}
use Rattle.build_commands.specs.declared.table_row.Kind.TheVariants as kind
use Rattle.build_commands.specs.declared.table_row.Node.{Node}

-- a file that rows make; `implied`: only since another one is in it
pub record Entry : Type 0 where
  pub line : Line
  pub implied : Bool

abbrev pub entry_of : NamedFile → Entry
entry_of f = record { line = line_of f; implied = f.inode.device == 18446744073709551614 }

-- what rows made and set
pub record Table : Type 0 where
  pub entries : List Entry
  pub settings : List Setting

abbrev pub table : Listing → Table
table l = record { entries = map entry_of l.files.items; settings = map setting_of l.changes.items }

-- the directories among the files that were made are those of the set
abbrev pub IsMade : Made → Type 0
IsMade m = (path : List ℕ) → holds m.directories path ≡ has_directory m.listing.files.items path

abbrev pub and_then : {X Y : Type 0} → Result X BadLine → (X → Result Y BadLine) → Result Y BadLine
and_then (Ok x) f = f x
and_then (Err b) f = Err b

-- the line of a manifest for a file of a row
abbrev pub line_for : Row → Word → ℕ → List ℕ → Line
line_for r w minor path = record {
  number = r.line;
  word = w;
  path = path;
  mode = unwrap_or r.numbers.mode 493;
  uid = r.numbers.uid;
  gid = r.numbers.gid;
  align = 0;
  major = r.numbers.major;
  minor = minor;
  text = [];
}

abbrev pub sound : Line → Option ℕ → Result Line BadLine
sound l (Some k) = bad l.number k why.Row
sound l None = made l

-- the file of a row at a path, if a manifest can have its line
abbrev pub file_for : Row → Word → ℕ → List ℕ → Result Line BadLine
file_for r w minor path =
    if nat_lt minor (2 ^ 32)
    then (if is_empty path then bad r.line BAD_WORD why.Row
    else sound (line_for r w minor path) (own_fault (line_for r w minor path)))
    else bad r.line BAD_NUMBER why.Row

-- the device of a number, from 0 on: if there are several, with a number at the end of its path
abbrev pub device : Row → Node → ℕ → Result Line BadLine
device r n step =
    if nat_lt r.count 2 then file_for r (word_of_node n) r.numbers.minor r.path
    else file_for r (word_of_node n) (r.numbers.minor + step * r.numbers.increment)
    (r.path ++ decimal (r.numbers.start + step))

abbrev pub devices_by : Kind → ℕ → ℕ
devices_by (kind.Device n) count = max count 1
devices_by _ count = 0

abbrev pub devices : Row → ℕ
devices r = devices_by r.kind r.count

-- a row by itself: its last file, which has the longest name and the greatest number
abbrev pub check_by : Kind → Row → Result (Unit {0}) BadLine
check_by (kind.Device n) r = and_then (device r n (r.count - 1)) (λ l. Ok tt)
check_by kind.Directory r = and_then (file_for r Dir 0 r.path) (λ l. Ok tt)
check_by _ r = Ok tt

abbrev pub check : Row → Result (Unit {0}) BadLine
check r = check_by r.kind r

abbrev pub setting : Row → List ℕ → Result Setting BadLine
setting r path =
    if is_utf8 path
    then Ok
    (record {
      line = r.line;
      path = path;
      attributes = record { mode = r.numbers.mode; uid = r.numbers.uid; gid = r.numbers.gid };
    })
    else bad r.line BAD_PATH why.Text

abbrev pub with_setting : Table → Result Setting BadLine → Result Table BadLine
with_setting t (Ok c) = Ok (record t { settings = t.settings ++ c ∷ [] })
with_setting t (Err b) = Err b

abbrev pub with_entry : Table → Entry → Result Table BadLine
with_entry t e =
    if nat_lt (length t.entries) (2 ^ 20)
    then Ok (record t { entries = t.entries ++ e ∷ [] })
    else bad e.line.number BAD_NUMBER why.Many

abbrev pub add_entry : Table → Bool → Result Line BadLine → Result Table BadLine
add_entry t implied (Ok l) = with_entry t (record { line = l; implied = implied })
add_entry t implied (Err b) = Err b

abbrev pub makes_directory : List Entry → List ℕ → Bool
makes_directory es path = list_any (λ e. is_dir e.line.word && bytes_eq e.line.path path) es

-- a row that makes a missing directory
abbrev pub as_parent : Row → Row
as_parent r = record r { numbers = record r.numbers { mode = None; uid = 0; gid = 0 } }

-- the directory at a path, unless it was found or made
abbrev pub with_parent : List NamedFile → Row → Table → List ℕ → Result Table BadLine
with_parent found r t path =
    if is_directory_in (file_at path found) || makes_directory t.entries path then Ok t
    else add_entry t true (file_for (as_parent r) Dir 0 path)

abbrev pub with_parents : List NamedFile → Row → Table → List (List ℕ) → Result Table BadLine
with_parents found r t [] = Ok t
with_parents found r t (p ∷ ps) =
    and_then (with_parent found r t p) (λ u. with_parents found r u ps)

-- the paths of the directories above a path: what is before each slash
abbrev pub ancestors_from : List ℕ → List ℕ → List (List ℕ)
ancestors_from front [] = []
ancestors_from front (b ∷ bs) =
    if b == 47 && not (is_empty front) then front ∷ ancestors_from (front ++ b ∷ []) bs
    else ancestors_from (front ++ b ∷ []) bs

abbrev pub ancestors : List ℕ → List (List ℕ)
ancestors path = ancestors_from [] path

-- `d`: sets the attributes of a directory that was found, or makes one, with those above it
abbrev pub with_directory : List NamedFile → Row → Table → Result Table BadLine
with_directory found r t =
    if is_directory_in (file_at r.path found) then with_setting t (setting r r.path)
    else and_then (with_parents found r t (ancestors r.path))
    (λ u. add_entry u false (file_for r Dir 0 r.path))

abbrev pub is_regular_kind : FileKind → Bool
is_regular_kind file.Regular = true
is_regular_kind _ = false

abbrev pub is_regular_in : Option NamedFile → Bool
is_regular_in None = false
is_regular_in (Some f) = is_regular_kind f.kind

-- `f` and `F`: sets the attributes of a regular file, which `f` needs
abbrev pub with_regular : List NamedFile → Row → Bool → Table → Result Table BadLine
with_regular found r is_needed t =
    if is_regular_in (file_at r.path found) then with_setting t (setting r r.path)
    else (if is_needed then bad r.line BAD_TARGET why.File else Ok t)

abbrev pub begins_name : List ℕ → Bool
begins_name [] = true
begins_name (b ∷ bs) = b == 47

-- a path is another one, or below it
abbrev pub is_below : List ℕ → List ℕ → Bool
is_below path other =
    bytes_eq (take (length other) path) other && begins_name (drop (length other) path)

abbrev pub is_link : FileKind → Bool
is_link (file.Symlink text) = true
is_link _ = false

abbrev pub is_slink : Word → Bool
is_slink Slink = true
is_slink _ = false

abbrev pub is_set_below : List ℕ → NamedFile → Bool
is_set_below path f = not (is_link f.kind) && is_below (path_of f) path

abbrev pub is_entry_below : List ℕ → Entry → Bool
is_entry_below path e = not (is_slink e.line.word) && is_below e.line.path path

abbrev pub with_limited : Row → Table → Result Setting BadLine → Result Table BadLine
with_limited r t c =
    if nat_lt (length t.settings) (2 ^ 20) then with_setting t c
    else bad r.line BAD_NUMBER why.Many

-- the attributes of each found file at the path of a row or below it, except symbolic links
abbrev pub with_settings : Row → Table → List NamedFile → Result Table BadLine
with_settings r t [] = Ok t
with_settings r t (f ∷ fs) =
    if is_set_below r.path f
    then and_then (with_limited r t (setting r (path_of f))) (λ u. with_settings r u fs)
    else with_settings r t fs

-- a file with the attributes of a row
abbrev pub with_attributes : Row → NamedFile → NamedFile
with_attributes r f =
    record f {
      mode = unwrap_or r.numbers.mode f.mode;
      uid = r.numbers.uid;
      gid = r.numbers.gid;
    }

abbrev pub set_below : Row → NamedFile → NamedFile
set_below r f = if is_set_below r.path f then with_attributes r f else f

abbrev pub set_line : Row → Line → Line
set_line r l =
    record l {
      mode = unwrap_or r.numbers.mode l.mode;
      uid = r.numbers.uid;
      gid = r.numbers.gid;
    }

abbrev pub set_entry : Row → Entry → Entry
set_entry r e = if is_entry_below r.path e then record e { line = set_line r e.line } else e

abbrev pub with_entries : List NamedFile → Row → Table → Result Table BadLine
with_entries found r t =
    if list_any (is_set_below r.path) found || list_any (is_entry_below r.path) t.entries
    then Ok (record t { entries = map (set_entry r) t.entries })
    else bad r.line BAD_TARGET why.File

-- `r`: sets the attributes of a file and of all below it, except symbolic links, also of what
-- earlier rows made
abbrev pub with_below : List NamedFile → Row → Table → Result Table BadLine
with_below found r t = and_then (with_settings r t found) (with_entries found r)

-- `c`, `b` and `p`: so many devices, from one of a number on
abbrev pub with_devices : Row → Node → Table → ℕ → ℕ → Result Table BadLine
with_devices r n t step zero = Ok t
with_devices r n t step (suc more) =
    and_then (add_entry t false (device r n step)) (λ u. with_devices r n u (step + 1) more)

abbrev pub row_by : Kind → List NamedFile → Row → Table → Result Table BadLine
row_by kind.Regular found r t = with_regular found r true t
row_by kind.MaybeRegular found r t = with_regular found r false t
row_by kind.Directory found r t = with_directory found r t
row_by kind.Below found r t = with_below found r t
row_by (kind.Device n) found r t = with_devices r n t 0 (devices r)

-- what a row does, after the rows before it
abbrev pub with_row : List NamedFile → Row → Table → Result Table BadLine
with_row found r t = row_by r.kind found r t

abbrev pub with_rows : List NamedFile → Table → List Row → Result Table BadLine
with_rows found t [] = Ok t
with_rows found t (r ∷ rs) = and_then (with_row found r t) (λ u. with_rows found u rs)

abbrev pub nothing : Table
nothing = record { entries = []; settings = [] }

-- rows, and how many devices they make
pub record Rows : Type 0 where
  pub rows : List Row
  pub devices : ℕ

abbrev pub rows_view : code.Rows → Rows
rows_view s = record { rows = map row_view s.rows.items; devices = s.devices }

-- all rows make at most 1,048,576 devices, and each one can be in a manifest
abbrev pub with_next : Rows → Row → Result Rows BadLine
with_next s r =
    if nat_lt (2 ^ 20) (s.devices + devices r) then bad r.line BAD_NUMBER why.Many
    else and_then (check r)
    (λ u. Ok (record { rows = s.rows ++ r ∷ []; devices = s.devices + devices r }))

abbrev pub with_if : Rows → Option Row → Result Rows BadLine
with_if s None = Ok s
with_if s (Some r) = with_next s r

abbrev pub with_line : Rows → ℕ → List ℕ → Result Rows BadLine
with_line s n line = and_then (row_in n line) (with_if s)

abbrev pub rows_from : Rows → ℕ → List (List ℕ) → Result Rows BadLine
rows_from s n [] = Ok s
rows_from s n (l ∷ ls) = and_then (with_line s n l) (λ t. rows_from t (n + 1) ls)

-- the rows of a text, or the first line that is refused by itself
abbrev pub rows_of : List ℕ → Result Rows BadLine
rows_of text = rows_from (record { rows = []; devices = 0 }) 1 (pieces 10 text)

-- what the rows of a text make and set, or the first that is refused
abbrev pub table_of : List NamedFile → List ℕ → Result Table BadLine
table_of found text = and_then (rows_of text) (λ s. with_rows found nothing s.rows)

-- a directory that is made only since another one is in it, behind a file of another kind
abbrev pub is_hidden : Option NamedFile → NamedFile → Bool
is_hidden None f = false
is_hidden (Some g) f =
    (f.inode.device == 18446744073709551614) && bytes_eq (path_of f) (path_of g)
    && not (is_directory g)

-- sorted files without those that are hidden by the one before them, the first of which is g
abbrev pub shown_from : Option NamedFile → List NamedFile → List NamedFile
shown_from g [] = []
shown_from g (f ∷ fs) = if is_hidden g f then shown_from g fs else f ∷ shown_from (Some f) fs

-- the same files, sorted by their paths
pub record IsSorted (files sorted : List NamedFile) : Type 0 where
  pub order : AreSorted sorted
  pub same : (path : List ℕ) → named path sorted ≡ named path files

-- the last file of each path
pub record IsLaid (files laid : List NamedFile) : Type 0 where
  pub sorted : List NamedFile
  pub is : IsSorted files sorted
  pub last : AreLaid (shown_from None sorted) laid

-- the file of a bad line and the one before it of the same path are of two kinds
pub record IsMixedAt (files : List NamedFile) (b : BadLine) : Type 0 where
  pub sorted : List NamedFile
  pub file : NamedFile
  pub is : IsSorted files sorted
  pub mixed : IsMixed (shown_from None sorted) file
  pub line : b ≡ record { line = file.inode.number; number = EXISTS; why = why.File }

abbrev pub IsMixedUp : List NamedFile → ListError → Type 0
IsMixedUp files error.OutOfMemory = ⊤
IsMixedUp files (error.Bad b) = IsMixedAt files b

-- what the rows of a text say, with these files in their order
pub record AreOf (found : List NamedFile) (text : List ℕ) (t : Table) (files : List NamedFile)
    : Type 0 where
  pub is : table_of found text ≡ Ok t
  pub entries : map entry_of files ≡ t.entries

-- the last file of each path, and each fits the others and the found files
pub record IsListed (found : List NamedFile) (text : List ℕ) (l : Listing) : Type 0 where
  pub table : Table
  pub files : List NamedFile
  pub of : AreOf found text table files
  pub settings : map setting_of l.changes.items ≡ table.settings
  pub laid : IsLaid files l.files.items
  pub fits : first_unfit found l.files.items ≡ None

pub record IsUnfit (found : List NamedFile) (text : List ℕ) (b : BadLine) : Type 0 where
  pub table : Table
  pub files : List NamedFile
  pub laid : List NamedFile
  pub of : AreOf found text table files
  pub is : IsLaid files laid
  pub first : first_unfit found laid ≡ Some b

pub record IsOfTwoKinds (found : List NamedFile) (text : List ℕ) (b : BadLine) : Type 0 where
  pub table : Table
  pub files : List NamedFile
  pub of : AreOf found text table files
  pub mixed : IsMixedAt files b

-- the first row that is refused by itself or after those before it; otherwise one whose file is of
-- another kind than one before it; otherwise the first that does not fit
abbrev pub IsRefusal : List NamedFile → List ℕ → ListError → Type 0
IsRefusal found text error.OutOfMemory = ⊤
IsRefusal found text (error.Bad b) =
    (table_of found text ≡ Err b) ⊎ (IsOfTwoKinds found text b ⊎ IsUnfit found text b)
