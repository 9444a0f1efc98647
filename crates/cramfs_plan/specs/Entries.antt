-- The values that the code keeps on its way, in the words of the layout. `entry_view`, `kept_view`:
-- an entry, and how its bytes are kept. `stored_by`, `listed_by`: the offsets of a file's bytes and
-- of a directory's list. `Knows`: a map has the tables of sources. (This project's own.)
use Rattle.std.specs.Prelude.{◌≡◌, ℕ, ◌+◌, ◌≤◌, List, [], get_or, Some}
use Rattle.std.specs.BTreeMap.{BTreeMap, get}
use Rattle.std.specs.Ordering.{nat_cmp}
use Rattle.cramfs_format.specs.declared.order.Order.{Order}
use Rattle.manifest_tree.specs.Names.{Fill, Inode}
use Rattle.manifest_tree.specs.Items.{Item}
use Rattle.cramfs_layout.specs.Layout.{Table, Kept, nowhere, shared, fresh, pad4, with_table}
use Rattle.cramfs_layout.specs.Layout.{table_with, table_by, size_by, after_by}
use Rattle.cramfs_layout.specs.Items.{item_of, start_by}
use Rattle.plan_rows.specs.Rows.{bytes_view}
use Rattle.cramfs_plan.specs.declared.wide_inode.WideInode as code_wide_inode
use Rattle.cramfs_plan.specs.declared.kept.Kept as code_kept
use Rattle.cramfs_plan.specs.declared.kept.Kept.TheVariants as kept
use Rattle.cramfs_plan.specs.declared.kept.Stored as code_stored
use Rattle.cramfs_plan.specs.Passes.{offset_by}

abbrev pub entry_view : code_wide_inode.WideInode → Item
entry_view e = record {
  place = e.place;
  first = get_or e.words 0 0;
  second = get_or e.words 1 0;
  third = get_or e.words 2 0;
  name = e.name.now;
  table = e.table;
  start = e.start;
  len = e.len;
  fill = bytes_view e.bytes;
}

abbrev pub kept_view : code_kept.Kept → Kept
kept_view kept.Nowhere = nowhere
kept_view (kept.Shared t) = shared t
kept_view kept.Fresh = fresh

-- a table that another file has too is not behind `near`
abbrev pub IsBelow : ℕ → code_kept.Kept → Type 0
IsBelow near kept.Nowhere = Unit {0}
IsBelow near (kept.Shared t) = t ≤ near
IsBelow near kept.Fresh = Unit {0}

-- the offsets of the bytes of a file that is kept so, if what was placed before ends at `from`
abbrev pub stored_by : Kept → ℕ → Inode → code_stored.Stored
stored_by k from i = record {
  size = size_by i.kind i;
  offset = table_by k from;
  table = table_by k from;
  start = start_by k from i;
  len = i.size;
  end = (after_by k (record { at = from; tables = [] }) i).at;
}

-- the offsets of a directory's list of this length
abbrev pub listed_by : ℕ → ℕ → code_stored.Stored
listed_by len from = record {
  size = len;
  offset = offset_by len from;
  table = 0;
  start = 0;
  len = 0;
  end = pad4 from + len;
}

-- the tables of sources after a file with these bytes that is kept so
abbrev pub tables_after : Kept → ℕ → Fill → List Table → List Table
tables_after nowhere from f ts = ts
tables_after (shared t) from f ts = ts
tables_after fresh from f ts = with_table f (pad4 from) ts

-- the item of a name at l whose bytes are stored so
abbrev pub stored_item : Order → ℕ → List ℕ → Inode → code_stored.Stored → Fill → Item
stored_item o l name i s f = item_of o l name i s.size s.offset s.table s.start s.len f

-- the map has the offsets of the tables of sources
abbrev pub Knows : List Table → BTreeMap ℕ ℕ → Type 0
Knows ts m = (k : ℕ) → get nat_cmp m k ≡ table_with ts k

-- no table is behind `near`
abbrev pub AreNear : ℕ → BTreeMap ℕ ℕ → Type 0
AreNear near m = (k t : ℕ) → get nat_cmp m k ≡ Some t → t ≤ near
