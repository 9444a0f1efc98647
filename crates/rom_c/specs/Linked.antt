-- `links_of`: the number of names of a node. `parent_of`: the directory that has an entry of a
-- directory. `parent_reported`: its report to C. (This project's own.)
use Rattle.std.specs.Prelude.{ℕ, ◌==◌, Bool, false, ◌||◌, find, Option, if◌then◌else◌, count_by}
use Rattle.rom_tree.specs.Tree.{Node, Entries, no_entries, entry, entries_of, ino_of, is_directory}
use Rattle.rom_tree.specs.Tree.{nodes}
use Rattle.rom_c.specs.declared.answers.RomtoolNode.{RomtoolNode}
use Rattle.rom_c.specs.Reported.{no_node, found_reported}

-- how many names lead to a node of this number; the root has one
abbrev pub links_of : Node → ℕ → ℕ
links_of t n = count_by (λ x. ino_of x == n) (nodes t)

-- an entry leads to a node of this number
abbrev pub has_entry : ℕ → Entries → Bool
has_entry n no_entries = false
has_entry n (entry name x es) = (ino_of x == n) || has_entry n es

-- the first directory, in preorder, with such an entry
abbrev pub entered_from : Node → ℕ → Option Node
entered_from t n = find (λ x. has_entry n (entries_of x)) (nodes t)

-- The parent of a directory x in the tree t; the root is its own. Of another node the error is 2.
abbrev pub parent_reported : Node → Node → RomtoolNode
parent_reported t x =
    if is_directory x then (if ino_of x == ino_of t then record { error = 0; node = ino_of t }
    else found_reported (entered_from t (ino_of x))) else no_node 2
