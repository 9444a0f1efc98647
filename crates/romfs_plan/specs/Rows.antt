-- `too_large`: the whole of a tree does not fit romfs. `header_count`: the number of headers of
-- rows. (This project's own. The limits of 2^28 bytes, 2^20 references and 64 names are this
-- project's.)
use Rattle.std.specs.Prelude.{ℕ, ◌+◌, ◌^◌, ◌<◌, ◌≤◌, ◌||◌, nat_lt, Bool, false, List, [], ◌∷◌}
use Rattle.std.specs.Prelude.{length}
use Rattle.rom_fields.specs.Padding.{pad}
use Rattle.manifest_tree.specs.Names.{Inode, Names}
use Rattle.manifest_tree.specs.Tree.{What, a_leaf, a_link, a_directory}
use Rattle.manifest_tree.specs.Files.{height}
use Rattle.romfs_layout.specs.Layout.{root_at, full_size_of}
use Rattle.romfs_layout.specs.Items.{items_of}
use Rattle.plan_rows.specs.Rows.{Row}

-- the number of headers of a name; a directory's list begins with `.` and `..`
abbrev pub count_of : What → ℕ
count_of (a_leaf i) = 1
count_of (a_link i) = 1
count_of (a_directory i) = 3

abbrev pub header_count : List Row → ℕ
header_count [] = 0
header_count (r ∷ rs) = count_of r.what + header_count rs

-- within the limits of a manifest's line
abbrev pub IsFitWhat : What → Type 0
IsFitWhat (a_leaf i) = i.size ≤ 2 ^ 28
IsFitWhat (a_link i) = Unit {0}
IsFitWhat (a_directory i) = Unit {0}

abbrev pub IsFitRow : Row → Type 0
IsFitRow r = (length r.name < 256) × IsFitWhat r.what

-- the whole does not fit
abbrev pub too_large : List ℕ → Inode → Names → Bool
too_large volume root n =
    nat_lt (2 ^ 28) (pad (full_size_of (root_at volume) n) 1024)
    || (false || (nat_lt 64 (height n) || nat_lt (2 ^ 20) (length (items_of volume root n))))
