-- For the proofs: `all_offsets`: the offsets of a layout's headers, as a forest of records.
-- `in_row`: the same in preorder. (This project's own.)
use Rattle.std.specs.Prelude.{ℕ, ◌+◌, List, [], ◌∷◌, ◌++◌}
use Rattle.record_forest.specs.Forest.{Forest, none, at}
use Rattle.romfs_format.specs.Record.{pad16}
use Rattle.manifest_tree.specs.Names.{Names, nothing, leaf, link, subdirectory}
use Rattle.romfs_layout.specs.Layout.{place_of, leaf_end, header_end, ends}

-- the offsets of the records of a list that is placed from `from` on
abbrev pub offsets : ℕ → Names → Forest
offsets from nothing = none
offsets from (leaf name i after) =
    at (place_of from name i) none (offsets (leaf_end from name i) after)
offsets from (link name i after) = at (pad16 from) none (offsets (header_end from name) after)
offsets from (subdirectory name i own after) =
    let h = header_end from name in
    at (pad16 from) (at h none (at (h + 32) none (offsets (h + 64) own)))
    (offsets (ends (h + 64) own) after)

-- all offsets, behind a root that heads its own list
abbrev pub all_offsets : ℕ → Names → Forest
all_offsets r n = at r none (at (r + 32) none (offsets (r + 64) n))

-- the offsets in preorder
abbrev pub in_row : Forest → List ℕ
in_row none = []
in_row (at p own after) = p ∷ in_row own ++ in_row after
