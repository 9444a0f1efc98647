-- `headers_of`: the headers of rows, by a pass over the rows and their offsets. `placed_of`,
-- `noted`: the files of rows with the offsets of their headers, in a list and in a map. (This
-- project's own.)
use Rattle.std.specs.Prelude.{ℕ, ◌+◌, ◌^◌, ◌<◌, ◌≤◌, ◌==◌, if◌then◌else◌, List, [], ◌∷◌, ◌++◌}
use Rattle.std.specs.Prelude.{length, slice_index, slice_set}
use Rattle.std.specs.Option.{unwrap_or}
use Rattle.std.specs.Ordering.{nat_cmp}
use Rattle.std.specs.BTreeMap.{get_by, BTreeMap}
use Rattle.rom_tree.specs.Dots.{dot, dot_dot}
use Rattle.manifest_tree.specs.Names.{Inode}
use Rattle.manifest_tree.specs.Tree.{What, a_leaf, a_link, a_directory}
use Rattle.manifest_tree.specs.Files.{Placed, at_place}
use Rattle.romfs_layout.specs.Layout.{Header, header_alone, code_of, device_of, record_len}
use Rattle.plan_rows.specs.Rows.{Row}
use Rattle.romfs_plan.specs.declared.places.Place.{Place}

-- the header of a file, if it is at this offset
abbrev pub leaf_header : List ℕ → Inode → Place → Header
leaf_header name i p = record {
  place = p.at;
  next = p.next + code_of i;
  spec = device_of i;
  size = i.size;
  name = name;
  start = if i.size == 0 then 0 else p.at + record_len name;
  fill = i.fill;
}

-- the headers of a directory that is in the directory at `dir`: its own, `.` and `..`
abbrev pub directory_headers : ℕ → List ℕ → Inode → Place → List Header
directory_headers dir name i p =
    let h = p.at + record_len name in
    header_alone p.at (p.next + code_of i) h name
    ∷ header_alone h (h + 32) p.at dot
    ∷ header_alone (h + 32) p.first dir dot_dot
    ∷ []

-- the headers of a name; `at` is the offset of the header of a line
abbrev pub headers_by : (ℕ → ℕ) → ℕ → List ℕ → What → Place → List Header
headers_by at dir name (a_leaf i) p = leaf_header name i p ∷ []
headers_by at dir name (a_link i) p = header_alone p.at p.next (at i.line) name ∷ []
headers_by at dir name (a_directory i) p = directory_headers dir name i p

-- the headers of rows; for each depth, `dirs` has the directory whose list was met last there
abbrev pub headers_of : (ℕ → ℕ) → List ℕ → List Row → List Place → List Header
headers_of at dirs [] ps = []
headers_of at dirs (r ∷ rs) [] = []
headers_of at dirs (r ∷ rs) (p ∷ ps) =
    headers_by at (slice_index dirs r.depth) r.name r.what p
    ++ headers_of at (slice_set dirs (r.depth + 1) p.at) rs ps

-- the root's header, which heads its own list, and `..`
abbrev pub root_headers : ℕ → ℕ → Inode → List Header
root_headers r first i =
    header_alone r (r + 32 + code_of i) r dot ∷ header_alone (r + 32) first r dot_dot ∷ []

-- the first offset, or 0 if there is none
abbrev pub first_of : List Place → ℕ
first_of [] = 0
first_of (p ∷ ps) = p.at

-- the files of rows with the offsets of their headers
abbrev pub placed_by : What → ℕ → List Placed
placed_by (a_leaf i) at = at_place i at ∷ []
placed_by (a_link i) at = []
placed_by (a_directory i) at = at_place i at ∷ []

abbrev pub placed_of : List Row → List Place → List Placed
placed_of [] ps = []
placed_of (r ∷ rs) [] = []
placed_of (r ∷ rs) (p ∷ ps) = placed_by r.what p.at ++ placed_of rs ps

-- the offset of the header of a line's file in the map, or 0 if it has none
abbrev pub noted : BTreeMap ℕ ℕ → ℕ → ℕ
noted m line = unwrap_or (get_by (nat_cmp line) m) 0

-- the same after a row in front of the others, if it was `old` before
abbrev pub noted_by : What → ℕ → ℕ → ℕ → ℕ
noted_by (a_leaf i) at old line = if i.line == line then at else old
noted_by (a_link i) at old line = old
noted_by (a_directory i) at old line = if i.line == line then at else old

-- offsets within the greatest image
abbrev pub IsNear : Place → Type 0
IsNear p = (p.at ≤ 2 ^ 28) × (p.next ≤ 2 ^ 28) × (p.first ≤ 2 ^ 28)

-- a file whose words fit in 32 bits
abbrev pub IsFineWhat : What → Type 0
IsFineWhat (a_leaf i) = (i.size ≤ 2 ^ 28) × (i.major < 65536) × (i.minor < 65536)
IsFineWhat (a_link i) = Unit {0}
IsFineWhat (a_directory i) = Unit {0}

abbrev pub IsFineRow : Row → Type 0
IsFineRow r = (length r.name < 256) × (r.depth < 65) × IsFineWhat r.what
