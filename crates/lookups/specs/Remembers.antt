-- `found_in`: the answer of a look-up, as a function of the image. `Remembers`: each kept answer is
-- the answer of the look-up. (This project's own.)
use Rattle.std.specs.Prelude.{◌≡◌, ℕ, List, Option, Some, None, Contains}
use Rattle.rom_tree.specs.Tree.{Node, ino_of, entries_of}
use Rattle.rom_tree.specs.Image.{Image, image_node, find_entry}
use Rattle.rom_tree.specs.declared.types.NodeId.{NodeId}
use Rattle.lookups.specs.declared.short.Key.{Key}

-- the number of a node that was found
abbrev pub number_of : Option Node → Option NodeId
number_of None = None
number_of (Some y) = Some (record { 0 = ino_of y })

abbrev pub found_at : Option Node → List ℕ → Option NodeId
found_at None name = None
found_at (Some x) name = number_of (find_entry (entries_of x) name)

-- the answer of a look-up of a name in a directory
unfoldable pub found_in : Image → ℕ → List ℕ → Option NodeId
found_in m d name = found_at (image_node m d) name

-- each kept answer is the one of `find`
abbrev pub Remembers : (ℕ → List ℕ → Option NodeId) → List (Key × Option NodeId) → Type 0
Remembers find entries =
    (k : Key) (v : Option NodeId) → Contains entries (k, v) → v ≡ find k.directory k.name.items
