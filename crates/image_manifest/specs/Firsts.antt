-- `noted`, `noted_with`: the index of the first name of each node, in a map. (This project's own.)
use Rattle.std.specs.Prelude.{ℕ, ◌==◌, Option, Some, None, if◌then◌else◌}
use Rattle.std.specs.BTreeMap.{BTreeMap, get}
use Rattle.std.specs.Ordering.{nat_cmp}
use Rattle.rom_tree.specs.Tree.{Node, is_directory}

-- the index that a map has for a node's number
abbrev pub noted : BTreeMap ℕ ℕ → ℕ → Option ℕ
noted m number = get nat_cmp m number

-- the index of a number after an index was noted for a node; an index that was there stays
abbrev pub noted_with : ℕ → ℕ → Option ℕ → ℕ → Option ℕ
noted_with node index (Some i) number = Some i
noted_with node index None number = if node == number then Some index else None

-- the index that a member has, if the map has this one for its node; a directory's member has none
abbrev pub first_by : Node → Option ℕ → Option ℕ
first_by x o = if is_directory x then None else o
