-- The records of an image in the order of a list, and their paths. (This project's own.)
use Rattle.std.specs.Prelude.{ℕ, zero, suc, ◌+◌, ◌==◌, if◌then◌else◌, List, [], ◌∷◌, ◌++◌, length}
use Rattle.std.specs.Prelude.{take, drop, Option, None, Some, slice_get}
use Rattle.record_forest.specs.Forest.{Forest, none, at, count}
use Rattle.romfs_format.specs.Record.{name_of}
use Rattle.cramfs_format.specs.declared.order.Order.{Order}
use Rattle.cramfs_format.specs.Inode.{name_of as cramfs_name_of}
use Rattle.image_info.specs.Gaps.{romfs_forest, cramfs_forest}
use Rattle.image_extents.specs.declared.extent.Record.{Record}

-- the entry of the record at p in the list of the directory of number d
abbrev pub romfs_entry : List ℕ → ℕ → ℕ → Record
romfs_entry b p d =
    record { offset = p; name = p + 16; length = length (name_of b p); directory = d }

abbrev pub cramfs_entry : Order → List ℕ → ℕ → ℕ → Record
cramfs_entry o b p d =
    record { offset = p; name = p + 12; length = length (cramfs_name_of o b p); directory = d }

-- the root, which has no name and is its own directory
abbrev pub root_entry : ℕ → Record
root_entry p = record { offset = p; name = p; length = 0; directory = 0 }

-- The records of a list, each with those of its own list behind it. The first one has the number
-- n, and their directory the number d.
abbrev pub listed : (ℕ → ℕ → Record) → ℕ → ℕ → Forest → List Record
listed entry n d none = []
listed entry n d (at p own after) =
    entry p d ∷ (listed entry (suc n) n own ++ listed entry (suc n + count own) d after)

-- The root with its list. What comes after it is in its own list: a romfs root that heads its own
-- list has its other entries there.
abbrev pub all_listed : (ℕ → ℕ → Record) → Forest → List Record
all_listed entry none = []
all_listed entry (at r own after) =
    root_entry r ∷ (listed entry 1 0 own ++ listed entry (suc (count own)) 0 after)

-- the records of a romfs image whose root is at r
unfoldable pub romfs_listed : List ℕ → ℕ → List Record
romfs_listed b r = all_listed (romfs_entry b) (romfs_forest b r)

-- the records of a cramfs image
unfoldable pub cramfs_listed : Order → List ℕ → List Record
cramfs_listed o b = all_listed (cramfs_entry o b) (cramfs_forest o b)

abbrev pub name_in : List ℕ → Record → List ℕ
name_in b x = take x.length (drop x.name b)

-- the path of the i-th record below the root, with at most so many names: that of its directory, a
-- slash and its name
abbrev pub path_by : List ℕ → (ℕ → List ℕ) → Option Record → List ℕ
path_by b above None = []
path_by b above (Some x) = above x.directory ++ 47 ∷ name_in b x

abbrev pub path_in : List ℕ → List Record → ℕ → ℕ → List ℕ
path_in b rs zero i = []
path_in b rs (suc most) i =
    if i == 0 then [] else path_by b (path_in b rs most) (slice_get rs i)

-- that of the root is a slash
abbrev pub path_of : List ℕ → List Record → ℕ → List ℕ
path_of b rs i = if i == 0 then 47 ∷ [] else path_in b rs 65 i
