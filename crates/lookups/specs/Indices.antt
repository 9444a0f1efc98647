-- `entries_in`: the list of a directory. `IsKnown`: what the first entries of a list answer for a
-- name. `IsIndexOf`: the rows are sorted by names, and the first row with a name leads to the same
-- node as the list's first entry with that name. `AreIndices`: each kept index is that of its
-- directory's list. (This project's own.)
use Rattle.std.specs.Prelude.{◌≡◌, ℕ, ◌<◌, Bool, List, [], ◌∷◌, Option, Some, None, Vec}
use Rattle.std.specs.Prelude.{if◌then◌else◌}
use Rattle.std.specs.BTreeMap.{BTreeMap, get}
use Rattle.std.specs.Cmp.Lexicographic.{slice_cmp}
use Rattle.std.specs.List.Sorted.{IsSorted}
use Rattle.std.specs.Ordering.{nat_cmp, is_lt}
use Rattle.std.specs.Str.{bytes_eq}
use Rattle.std.specs.declared.cmp.Ordering.{Ordering}
use Rattle.rom_tree.specs.Tree.{Node, Entries, no_entries, entry_count, ino_of, entries_of}
use Rattle.rom_tree.specs.Image.{Image, image_node, find_entry}
use Rattle.rom_tree.specs.declared.types.NodeId.{NodeId}
use Rattle.lookups.specs.declared.front.Front.{Front}
use Rattle.lookups.specs.declared.front.Front.TheVariants.{Leads, Absent, Longer}
use Rattle.lookups.specs.declared.rows.NamedNode.{NamedNode}

abbrev pub entries_at : Option Node → Entries
entries_at None = no_entries
entries_at (Some x) = entries_of x

-- the list of the directory of this number
abbrev pub entries_in : Image → ℕ → Entries
entries_in m d = entries_at (image_node m d)

-- the number of a node that was found
abbrev pub number_of : Option Node → Option NodeId
number_of None = None
number_of (Some y) = Some (record { 0 = ino_of y })

-- the answer of the front of a list for a name
abbrev pub IsKnown : Entries → List ℕ → Front → Type 0
IsKnown es name (Leads n) = number_of (find_entry es name) ≡ Some n
IsKnown es name Absent = number_of (find_entry es name) ≡ None
IsKnown es name Longer = 16 < entry_count es

-- names in the order of their bytes
abbrev pub by_name : NamedNode → NamedNode → Ordering
by_name x y = slice_cmp nat_cmp x.name.now y.name.now

-- whether a row's name sorts before this one
abbrev pub is_below : List ℕ → NamedNode → Bool
is_below name x = is_lt (slice_cmp nat_cmp x.name.now name)

-- the node of the first row with exactly this name
abbrev pub first_of : List NamedNode → List ℕ → Option NodeId
first_of [] name = None
first_of (x ∷ xs) name = if bytes_eq x.name.now name then Some x.node else first_of xs name

-- The rows are sorted by names, and the first row with a name leads to the node of the list's first
-- entry with it.
abbrev pub IsIndexOf : Entries → List NamedNode → Type 0
IsIndexOf es rows =
    IsSorted by_name rows × ((name : List ℕ) → first_of rows name ≡ number_of (find_entry es name))

-- each kept index is that of its directory's list
abbrev pub AreIndices : {A : Type 0} → (ℕ → Entries) → BTreeMap ℕ (Vec NamedNode A) → Type 0
AreIndices {A} list kept = (d : ℕ) (rows : Vec NamedNode A) → get nat_cmp kept d ≡ Some rows
    → IsIndexOf (list d) rows.items
