-- `IsRow`: a row that can be measured and placed. (This project's own.)
use Rattle.std.specs.Prelude.{◌^◌, ◌<◌, ◌≤◌, length}
use Rattle.plan_rows.specs.declared.row.Inode as code_inode
use Rattle.plan_rows.specs.declared.row.Row as code_row
use Rattle.plan_rows.specs.declared.row.What as code_what
use Rattle.plan_rows.specs.declared.row.What.TheVariants as what

-- the name and the way to it are not too long
abbrev pub IsNarrow : code_row.Row → Type 0
IsNarrow r = (length r.name.now < 256) × (r.depth < 65)

-- the bytes of a file can be placed
abbrev pub IsPlaceable : code_inode.Inode → Type 0
IsPlaceable i = (i.size < 2 ^ 24) × (0 < i.align) × (i.align ≤ 65536)

abbrev pub IsPlaceableAs : code_what.What → code_inode.Inode → Type 0
IsPlaceableAs what.Leaf i = IsPlaceable i
IsPlaceableAs what.Link i = ⊥
IsPlaceableAs what.Directory i = Unit {0}

abbrev pub IsRow : code_row.Row → Type 0
IsRow r = IsNarrow r × IsPlaceableAs r.what r.inode
