-- A row of a table of devices: PATH TYPE MODE UID GID MAJOR MINOR START INC COUNT, between spaces.
-- Words at the end can be left out, from UID on. (Buildroot's manual, "Makedev syntax
-- documentation".)
use Rattle.std.specs.Prelude.{ℕ, ◌+◌, ◌==◌, ◌||◌, not, nat_lt, Bool, true, false, if◌then◌else◌}
use Rattle.std.specs.Prelude.{List, [], ◌∷◌, codes, count_by, filter, length, map, slice_get}
use Rattle.std.specs.Prelude.{Option, Some, None, Result, Ok, Err}
use Rattle.std.specs.Borrow.{Bor}
use Rattle.std.specs.List.{list_all, slice_split}
use Rattle.std.specs.Option.{is_some, option_map}
use Rattle.std.specs.Str.{bytes_eq, is_utf8}
use Rattle.manifest.specs.FaultNumbers.{BAD_WORD, BAD_NUMBER, BAD_PATH}
use Rattle.manifest.specs.Texts.{below, digits_from, is_empty}
use Rattle.manifest.specs.declared.line.Word.{Word}
use Rattle.manifest.specs.declared.line.Word.TheVariants.{Block, Character, Fifo}
use Rattle.build_commands.specs.Lists.{bad}
use Rattle.build_commands.specs.declared.listing.BadLine.{BadLine}
use Rattle.build_commands.specs.declared.listing.Why.TheVariants as why
use Rattle.build_commands.specs.declared.table_row.Kind.{Kind}
use Rattle.build_commands.specs.declared.table_row.Kind.TheVariants as kind
use Rattle.build_commands.specs.declared.table_row.Node.{Node}
use Rattle.build_commands.specs.declared.table_row.Node.TheVariants as node
use Rattle.build_commands.specs.declared.table_row.Numbers.{Numbers}
use Rattle.build_commands.specs.declared.table_row.Row as code

-- a row, with its path in bytes
pub record Row : Type 0 where
  pub line : ℕ
  pub path : List ℕ
  pub kind : Kind
  pub numbers : Numbers
  pub count : ℕ

abbrev pub row_view : code.Row → Row
row_view r = record {
  line = r.line;
  path = r.path.now;
  kind = r.kind;
  numbers = r.numbers;
  count = r.count;
}

abbrev pub texts : List (Bor (List ℕ)) → List (List ℕ)
texts ts = map (λ t. t.now) ts

-- the word of a manifest's line that makes such a file
abbrev pub word_of_node : Node → Word
word_of_node node.Character = Character
word_of_node node.Block = Block
word_of_node node.Fifo = Fifo

-- a space, a tab, the end of a line or of a page
abbrev pub is_space : ℕ → Bool
is_space b = b == 32 || b == 9 || b == 10 || b == 13 || b == 12

-- the pieces of a text between spaces
abbrev pub spaced : List ℕ → List (List ℕ)
spaced line = slice_split is_space line

abbrev pub spaced_after : Option (Bor (List ℕ)) → List (List ℕ)
spaced_after None = []
spaced_after (Some rest) = spaced rest.now

abbrev pub words : List ℕ → List (List ℕ)
words line = filter (λ w. not (is_empty w)) (spaced line)

-- decimal digits; a missing number, or `-`, is 0
abbrev pub number_in : ℕ → Option (List ℕ) → Option ℕ
number_in most None = Some 0
number_in most (Some w) =
    if bytes_eq w (codes "-") then Some 0 else below (most + 1) (digits_from 10 0 w)

-- an owner; `root` is 0
abbrev pub owner_in : Option (List ℕ) → Option ℕ
owner_in None = Some 0
owner_in (Some w) =
    if bytes_eq w (codes "root") then Some 0 else number_in 4294967295 (Some w)

-- octal digits; with -1 a file keeps its mode
abbrev pub mode_in : Option (List ℕ) → Option (Option ℕ)
mode_in None = None
mode_in (Some w) =
    if bytes_eq w (codes "-1") then Some None
    else option_map (λ m. Some m) (below 4096 (digits_from 8 0 w))

abbrev pub all_numbers : Option (Option ℕ) → Option ℕ → Option ℕ → Option ℕ → Option ℕ → Option ℕ
    → Option ℕ → Option Numbers
all_numbers (Some mode) (Some uid) (Some gid) (Some major) (Some minor) (Some start)
    (Some increment) =
    Some (record {
      mode = mode;
      uid = uid;
      gid = gid;
      major = major;
      minor = minor;
      start = start;
      increment = increment;
    })
all_numbers _ _ _ _ _ _ _ = None

unfoldable pub numbers_in : List (List ℕ) → Option Numbers
numbers_in ws =
    all_numbers (mode_in (slice_get ws 2)) (owner_in (slice_get ws 3)) (owner_in (slice_get ws 4))
    (number_in 1048575 (slice_get ws 5)) (number_in 1048575 (slice_get ws 6))
    (number_in 1048575 (slice_get ws 7)) (number_in 1048575 (slice_get ws 8))

abbrev pub kind_named : List ℕ → Option Kind
kind_named w =
    if bytes_eq w (codes "f") then Some kind.Regular
    else (if bytes_eq w (codes "F") then Some kind.MaybeRegular
    else (if bytes_eq w (codes "d") then Some kind.Directory
    else (if bytes_eq w (codes "r") then Some kind.Below
    else (if bytes_eq w (codes "c") then Some (kind.Device node.Character)
    else (if bytes_eq w (codes "b") then Some (kind.Device node.Block)
    else (if bytes_eq w (codes "p") then Some (kind.Device node.Fifo) else None))))))

-- a path without the slashes at its end
abbrev pub trimmed : List ℕ → List ℕ
trimmed [] = []
trimmed (b ∷ bs) = if list_all (λ c. c == 47) (b ∷ bs) then [] else b ∷ trimmed bs

-- a device has a mode of its own
abbrev pub has_device_mode : Kind → Numbers → Bool
has_device_mode (kind.Device n) numbers = is_some numbers.mode
has_device_mode _ numbers = true

abbrev pub row_by : ℕ → List ℕ → Numbers → ℕ → Option Kind → Result Row BadLine
row_by n path numbers count None = bad n BAD_WORD why.Type
row_by n path numbers count (Some k) =
    if has_device_mode k numbers
    then Ok (record { line = n; path = path; kind = k; numbers = numbers; count = count })
    else bad n BAD_NUMBER why.Number

-- at most 65,536 devices, and 64 names
abbrev pub row_with : ℕ → List ℕ → List ℕ → Numbers → ℕ → Result Row BadLine
row_with n path word numbers count =
    if nat_lt 65536 count then bad n BAD_NUMBER why.Count
    else (if nat_lt 64 (count_by (λ b. b == 47) path) then bad n BAD_PATH why.Deep
    else row_by n path numbers count (kind_named word))

abbrev pub row_numbered : ℕ → List ℕ → List ℕ → List (List ℕ) → Option Numbers → Option ℕ
    → Result Row BadLine
row_numbered n path word ws (Some numbers) (Some count) =
    if nat_lt 10 (length ws) then bad n BAD_WORD why.Row
    else row_with n (trimmed path) word numbers count
row_numbered n path word ws _ _ = bad n BAD_NUMBER why.Number

-- the count of devices fits 64 bits
abbrev pub count_in : List (List ℕ) → Option ℕ
count_in ws = number_in 18446744073709551615 (slice_get ws 9)

-- the row of some words
abbrev pub row_of : ℕ → List (List ℕ) → Result Row BadLine
row_of n [] = bad n BAD_WORD why.Row
row_of n (path ∷ []) = bad n BAD_WORD why.Row
row_of n (path ∷ word ∷ []) = bad n BAD_WORD why.Row
row_of n (path ∷ word ∷ mode ∷ ws) =
    row_numbered n path word (path ∷ word ∷ mode ∷ ws) (numbers_in (path ∷ word ∷ mode ∷ ws))
    (count_in (path ∷ word ∷ mode ∷ ws))

abbrev pub begins_comment : List ℕ → Bool
begins_comment [] = false
begins_comment (b ∷ bs) = b == 35

abbrev pub some_row : Result Row BadLine → Result (Option Row) BadLine
some_row (Ok r) = Ok (Some r)
some_row (Err b) = Err b

abbrev pub row_if : ℕ → List (List ℕ) → Result (Option Row) BadLine
row_if n [] = Ok None
row_if n (w ∷ ws) = if begins_comment w then Ok None else some_row (row_of n (w ∷ ws))

-- line n: a row, unless it has no words or is a comment
abbrev pub row_in : ℕ → List ℕ → Result (Option Row) BadLine
row_in n line = if is_utf8 line then row_if n (words line) else bad n BAD_WORD why.Row
