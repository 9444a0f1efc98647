-- `HoldsTables`: a set of the code has the tables of the items so far. `own_sections`: the sections
-- that the code adds for an item. `unsorted`: all sections before they are sorted. (This project's
-- own.)
use Rattle.std.specs.Prelude.{◌≡◌, ℕ, ◌*◌, ◌==◌, ◌||◌, not, Bool, if◌then◌else◌, List, [], ◌∷◌}
use Rattle.std.specs.Prelude.{drop}
use Rattle.std.specs.BTreeSet.{BTreeSet, contains}
use Rattle.std.specs.Ordering.{nat_cmp}
use Rattle.cramfs_format.specs.Inode.{block_count}
use Rattle.manifest_tree.specs.Items.{Item, Section, section, super, record_of, table_of}
use Rattle.manifest_tree.specs.Items.{bytes_section}
use Rattle.cramfs_layout.specs.Layout.{entry_len}
use Rattle.cramfs_layout.specs.Items.{has_table, sections_from}

-- the set has the tables of these items
abbrev pub HoldsTables : List Item → BTreeSet ℕ → Type 0
HoldsTables is seen = (t : ℕ) → contains nat_cmp seen t ≡ has_table is t

-- the sections of the item at an index; `fresh` is true if its table is new
abbrev pub own_sections : Bool → ℕ → Item → List Section
own_sections fresh index i =
    section i.place (entry_len i.name) (record_of index)
    ∷ (if (i.len == 0) || not fresh then []
    else section i.table (4 * block_count i.len) (table_of index) ∷ bytes_section index i)

-- the sections of items, before they are sorted
abbrev pub unsorted : List Item → List Section
unsorted is = section 0 76 super ∷ sections_from [] 1 (drop 1 is)
