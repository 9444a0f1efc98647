-- The two passes over the rows of names, in the layout's words. `own_lens`: backwards, the lengths
-- of lists. `walked`, `after_rows`: forwards, the offsets of all that rows place, and the state
-- behind it. (This project's own.)
use Rattle.std.specs.Prelude.{ℕ, ◌+◌, ◌==◌, if◌then◌else◌, List, [], ◌∷◌, ◌++◌, slice_index}
use Rattle.std.specs.Prelude.{slice_set, replicate}
use Rattle.cramfs_format.specs.declared.order.Order.{Order}
use Rattle.manifest_tree.specs.Names.{Names, nothing, leaf, link, subdirectory, no_bytes}
use Rattle.manifest_tree.specs.Tree.{What, a_leaf, a_link, a_directory}
use Rattle.manifest_tree.specs.Items.{Item}
use Rattle.cramfs_layout.specs.Layout.{State, entry_len, list_len, list_offset, pad4, after_file}
use Rattle.cramfs_layout.specs.Layout.{after_list, after_names}
use Rattle.cramfs_layout.specs.Items.{item_of, file_item}
use Rattle.plan_rows.specs.Rows.{Row}

-- The lengths at each depth of the lists that the rows behind are in, with one more row in front.
-- The list of the directory that this row names is then complete.
abbrev pub lens_with : List ℕ → Row → List ℕ
lens_with lens r =
    slice_set (slice_set lens (r.depth + 1) 0) r.depth (slice_index lens r.depth + entry_len r.name)

abbrev pub lens_of : List ℕ → List Row → List ℕ
lens_of lens [] = lens
lens_of lens (r ∷ rs) = lens_with (lens_of lens rs) r

-- the length of each row's own list
abbrev pub own_lens : List ℕ → List Row → List ℕ
own_lens lens [] = []
own_lens lens (r ∷ rs) = slice_index (lens_of lens rs) (r.depth + 1) ∷ own_lens lens rs

-- the same for names
abbrev pub named_lens : Names → List ℕ
named_lens nothing = []
named_lens (leaf name i after) = 0 ∷ named_lens after
named_lens (link name i after) = 0 ∷ named_lens after
named_lens (subdirectory name i own after) = list_len own ∷ (named_lens own ++ named_lens after)

-- forwards: what was placed so far, and the offset of the next entry of a list, at each depth
pub record Walk : Type 0 where
  pub state : State
  pub lists : List ℕ

-- the offset of a list of this length, if what was placed before ends at `from`
abbrev pub offset_by : ℕ → ℕ → ℕ
offset_by len from = if len == 0 then 0 else pad4 from

-- the item of a name at l, if its own list has this length
abbrev pub item_by : Order → State → ℕ → List ℕ → ℕ → What → Item
item_by o s l name len (a_leaf i) = file_item o l s name i
item_by o s l name len (a_link i) = file_item o l s name i
item_by o s l name len (a_directory i) = item_of o l name i len (offset_by len s.at) 0 0 0 no_bytes

abbrev pub state_by : State → ℕ → What → State
state_by s len (a_leaf i) = after_file s i
state_by s len (a_link i) = after_file s i
state_by s len (a_directory i) = record { at = pad4 s.at + len; tables = s.tables }

-- the offsets of the next entries after one more entry, and after the start of its own list
abbrev pub lists_with : List ℕ → Row → ℕ → List ℕ
lists_with lists r own =
    slice_set (slice_set lists r.depth (slice_index lists r.depth + entry_len r.name))
    (r.depth + 1) own

abbrev pub step : Walk → Row → ℕ → Walk
step w r len =
    record { state = state_by w.state len r.what; lists = lists_with w.lists r (pad4 w.state.at) }

abbrev pub row_item : Order → Walk → Row → ℕ → Item
row_item o w r len = item_by o w.state (slice_index w.lists r.depth) r.name len r.what

abbrev pub walked : Order → Walk → List Row → List ℕ → List Item
walked o w [] lens = []
walked o w (r ∷ rs) [] = []
walked o w (r ∷ rs) (len ∷ lens) = row_item o w r len ∷ walked o (step w r len) rs lens

abbrev pub after_rows : Walk → List Row → List ℕ → Walk
after_rows w [] lens = w
after_rows w (r ∷ rs) [] = w
after_rows w (r ∷ rs) (len ∷ lens) = after_rows (step w r len) rs lens

-- the state behind the superblock and the root's list, of this length
abbrev pub first_walk : ℕ → Walk
first_walk len = record { state = record { at = 76 + len; tables = [] }; lists = replicate 66 76 }

-- the items of names in the order of the names; their list is at l, and what they have is placed
-- after s
abbrev pub in_preorder : Order → ℕ → State → Names → List Item
in_preorder o l s nothing = []
in_preorder o l s (leaf name i rest) =
    file_item o l s name i ∷ in_preorder o (l + entry_len name) (after_file s i) rest
in_preorder o l s (link name i rest) =
    file_item o l s name i ∷ in_preorder o (l + entry_len name) (after_file s i) rest
in_preorder o l s (subdirectory name i own rest) =
    item_of o l name i (list_len own) (list_offset s.at own) 0 0 0 no_bytes
    ∷ (in_preorder o (pad4 s.at) (after_list s own) own
    ++ in_preorder o (l + entry_len name) (after_names (after_list s own) own) rest)
