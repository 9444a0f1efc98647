-- For the proofs: `spots`: the offsets of a layout's entries, as a forest of records. (This
-- project's own.)
use Rattle.std.specs.Prelude.{ℕ, ◌+◌}
use Rattle.record_forest.specs.Forest.{Forest, none, at}
use Rattle.manifest_tree.specs.Names.{Names, nothing, leaf, link, subdirectory}
use Rattle.cramfs_layout.specs.Layout.{entry_len, pad4, State, after_file, after_list, after_names}

-- the offsets of the entries of a list from l on, and of those below them; s is the state before
-- what they have
abbrev pub spots : ℕ → State → Names → Forest
spots l s nothing = none
spots l s (leaf name i rest) = at l none (spots (l + entry_len name) (after_file s i) rest)
spots l s (link name i rest) = at l none (spots (l + entry_len name) (after_file s i) rest)
spots l s (subdirectory name i own rest) =
    at l (spots (pad4 s.at) (after_list s own) own)
    (spots (l + entry_len name) (after_names (after_list s own) own) rest)
