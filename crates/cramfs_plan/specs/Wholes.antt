-- `too_large`: the whole of a tree does not fit cramfs. (This project's own.)
use Rattle.std.specs.Prelude.{ℕ, ◌^◌, ◌||◌, nat_lt, not, Bool, false, length}
use Rattle.cramfs_format.specs.declared.order.Order.{Order}
use Rattle.manifest_tree.specs.Names.{Inode, Names, nothing, leaf, link, subdirectory}
use Rattle.manifest_tree.specs.Files.{height}
use Rattle.cramfs_layout.specs.Layout.{list_len, size_of}
use Rattle.cramfs_layout.specs.Items.{items_of}

-- a list of 2^24 bytes or more
abbrev pub is_long_list : ℕ → Bool
is_long_list len = not (nat_lt len (2 ^ 24))

-- some directory of these names has such a list
abbrev pub has_long_list : Names → Bool
has_long_list nothing = false
has_long_list (leaf name i after) = has_long_list after
has_long_list (link name i after) = has_long_list after
has_long_list (subdirectory name i own after) =
    is_long_list (list_len own) || (has_long_list own || has_long_list after)

-- the image, a list, the way to a name or the number of items is beyond its limit
abbrev pub too_large : Order → Inode → Names → Bool
too_large o root n =
    nat_lt (2 ^ 28) (size_of n)
    || ((is_long_list (list_len n) || has_long_list n)
    || (nat_lt 64 (height n) || nat_lt (2 ^ 20) (length (items_of o root n))))
