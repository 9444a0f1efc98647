-- The lines of the extents of an image. (This project's own.)
use Rattle.std.specs.Prelude.{ℕ, ◌+◌, ◌-◌, ◌%◌, ◌^◌, ◌==◌, Bool, true, false, if◌then◌else◌, max}
use Rattle.std.specs.Prelude.{nat_lt, List, [], ◌∷◌, ◌++◌, length, take, drop, codes, decimal}
use Rattle.std.specs.Prelude.{Option, None, Some}
use Rattle.std.specs.List.{flat_map}
use Rattle.rom_fields.specs.Texts.{escaped}
use Rattle.image_info.specs.Map.{address_text}
use Rattle.image_extents.specs.Found.{is_data}
use Rattle.image_extents.specs.Listed.{path_of}
use Rattle.image_extents.specs.Tables.{led}
use Rattle.image_extents.specs.declared.extent.Extent.{Extent}
use Rattle.image_extents.specs.declared.extent.Extents.{Extents}
use Rattle.image_extents.specs.declared.extent.Kind.{Kind}
use Rattle.image_extents.specs.declared.extent.Kind.TheVariants.{Super, Header, List as ListOf}
use Rattle.image_extents.specs.declared.extent.Kind.TheVariants.{Table, Data}

abbrev pub word_of : Kind → List ℕ
word_of Super = codes "super"
word_of Header = codes "header"
word_of ListOf = codes "list"
word_of Table = codes "table"
word_of Data = codes "data"

-- the address of the byte at an offset, of 64 bits
abbrev pub address_of : ℕ → ℕ → ℕ
address_of base at = (base + at) % 2 ^ 64

-- an address, a length and the word of a kind, with a space after each
unfoldable pub range_text : ℕ → ℕ → List ℕ → List ℕ
range_text address len word =
    address_text address ++ (32 ∷ [] ++ (decimal len ++ (32 ∷ [] ++ (word ++ 32 ∷ []))))

abbrev pub is_super : Kind → Bool
is_super Super = true
is_super _ = false

-- the path of the record, escaped as in a list; the superblock has none
abbrev pub owner_text : Extents → Extent → List ℕ
owner_text e x =
    if is_super x.kind then 45 ∷ [] else escaped (path_of e.bytes.now e.records.items x.owner)

-- ADDRESS LENGTH KIND PATH
unfoldable pub extent_text : ℕ → Extents → Extent → List ℕ
extent_text base e x =
    range_text (address_of base x.start) x.len (word_of x.kind) ++ owner_text e x

-- of data, at an offset of the image: a space, and which byte of the contents it is
abbrev pub byte_text : Option ℕ → Extent → List ℕ
byte_text None x = []
byte_text (Some at) x =
    if is_data x.kind then 32 ∷ [] ++ decimal (x.offset + (at - x.start)) else []

-- the same bytes of another record
abbrev pub owned : Extent → ℕ → Extent
owned x i = record { kind = x.kind; start = x.start; len = x.len; offset = x.offset; owner = i }

-- the records that have the bytes of an extent: its own, and those after it with the same block
-- pointers
abbrev pub owners : Extents → Extent → List ℕ
owners e x = led e.next.items (length e.records.items) (Some x.owner)

-- the line of one of them
abbrev pub line_of : ℕ → Extents → Option ℕ → Extent → ℕ → List ℕ
line_of base e at x i = extent_text base e (owned x i) ++ (byte_text at x ++ 10 ∷ [])

-- the lines of some extents as bytes of the i-th record
abbrev pub lines_as : ℕ → Extents → Option ℕ → List Extent → ℕ → List ℕ
lines_as base e at xs i = flat_map (λ x. line_of base e at x i) xs

-- the lines of some extents for each record that has the bytes of the extent x
abbrev pub lines_by : ℕ → Extents → Option ℕ → List Extent → Extent → List ℕ
lines_by base e at xs x = flat_map (lines_as base e at xs) (owners e x)

abbrev pub have_owner : ℕ → List Extent → Bool
have_owner o [] = true
have_owner o (x ∷ xs) = if x.owner == o then have_owner o xs else false

-- The lines of the extents that begin at one offset. If they are of one record, which has a block
-- several times, record by record; otherwise extent by extent.
unfoldable pub run_text : ℕ → Extents → Option ℕ → List Extent → List ℕ
run_text base e at [] = []
run_text base e at (x ∷ xs) =
    if have_owner x.owner (x ∷ xs) then lines_by base e at (x ∷ xs) x
    else flat_map (λ y. lines_by base e at (y ∷ []) y) (x ∷ xs)

-- the extents that begin at an offset
abbrev pub starting : ℕ → List Extent → List Extent
starting s [] = []
starting s (x ∷ xs) = if x.start == s then x ∷ starting s xs else starting s xs

abbrev pub all_zero : List ℕ → Bool
all_zero [] = true
all_zero (x ∷ xs) = if x == 0 then all_zero xs else false

-- the word of bytes that are in no extent
abbrev pub rest_word : List ℕ → List ℕ
rest_word b = if all_zero b then codes "pad" else codes "gap"

-- the line of the bytes from `from` up to `to`, which are in no extent, if there are any
unfoldable pub between : ℕ → List ℕ → ℕ → ℕ → List ℕ
between base b from to =
    if nat_lt from to then
    range_text (address_of base from) (to - from) (rest_word (take (to - from) (drop from b)))
    ++ 45 ∷ 10 ∷ [] else []

-- the line of the bytes of a file after the accessible ones, if it has any
unfoldable pub beyond : ℕ → ℕ → ℕ → List ℕ
beyond base size file =
    if nat_lt size file then
    range_text (address_of base size) (file - size) (codes "beyond") ++ 45 ∷ 10 ∷ [] else []

abbrev pub is_start : Option ℕ → ℕ → Bool
is_start None s = false
is_start (Some b) s = b == s

-- The lines of the bytes from `reach` up to an extent, and of all extents that begin with it.
-- Nothing, if the one before it begins there, too.
abbrev pub piece : ℕ → Extents → ℕ → Option ℕ → Extent → List ℕ
piece base e reach before x =
    if is_start before x.start then [] else between base e.bytes.now reach x.start
    ++ run_text base e None (starting x.start e.extents.items)

-- the lines of some extents, and of the bytes before and between them from `reach` on
abbrev pub lines_from : ℕ → Extents → ℕ → Option ℕ → List Extent → List ℕ
lines_from base e reach before [] = []
lines_from base e reach before (x ∷ xs) =
    piece base e reach before x
    ++ lines_from base e (max reach (x.start + x.len)) (Some x.start) xs

-- where the last of some extents ends, or `reach`
abbrev pub reach_after : ℕ → List Extent → ℕ
reach_after reach [] = reach
reach_after reach (x ∷ xs) = reach_after (max reach (x.start + x.len)) xs

-- all lines of an image that is in a file of so many bytes
unfoldable pub extents_text : ℕ → ℕ → Extents → List ℕ
extents_text base file e =
    lines_from base e 0 None e.extents.items
    ++ (between base e.bytes.now (reach_after 0 e.extents.items) (length e.bytes.now)
    ++ beyond base (length e.bytes.now) file)
