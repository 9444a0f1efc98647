-- `sample_bytes`, `root`: the bytes and the tree of a small image with a node of each kind. (This
-- project's own.)
use Rattle.std.specs.Prelude.{◌≡◌, ℕ, List, [], ◌∷◌, Option, MatchOption}
use Rattle.rom_tree.specs.declared.types.Run.{Run}
use Rattle.rom_tree.specs.Tree.{Node, node, directory, regular, symlink, block, character, socket}
use Rattle.rom_tree.specs.Tree.{fifo, Entries, no_entries, entry, Attributes, row_from}

-- from its first byte on, a run has all `len` bytes
abbrev pub IsWhole : ℕ → ℕ → Option Run → Type 0
IsWhole len off r = off ≡ 0 → MatchOption r (Unit {0}) (λ v. v.len ≡ len)

abbrev pub attributes : ℕ → ℕ → ℕ → ℕ → Attributes
attributes ino mode major minor =
    record { ino = ino; mode = mode; uid = 1000; gid = 100; major = major; minor = minor }

-- "helloa b%", which is a file's five bytes, and a link's text that is also a name; then all other
-- names
abbrev pub sample_bytes : List ℕ
sample_bytes =
    104 ∷ 101 ∷ 108 ∷ 108 ∷ 111 ∷ 97 ∷ 32 ∷ 98 ∷ 37
    ∷ 98 ∷ 105 ∷ 110 ∷ 100 ∷ 105 ∷ 115 ∷ 107 ∷ 116 ∷ 116 ∷ 121 ∷ 108 ∷ 111 ∷ 103 ∷ 195 ∷ 169 ∷ 127
    ∷ 101 ∷ 109 ∷ 112 ∷ 116 ∷ 121 ∷ 115 ∷ 104 ∷ 100 ∷ 101 ∷ 101 ∷ 112 ∷ 112 ∷ []

abbrev pub sh : Node
sh = node (attributes 3 2541 0 0) (regular (row_from 0 5))

abbrev pub pipe : Node
pipe = node (attributes 5 420 0 0) fifo

-- p
abbrev pub deep_entries : Entries
deep_entries = entry (112 ∷ []) pipe no_entries

abbrev pub deep : Node
deep = node (attributes 4 365 0 0) (directory deep_entries)

-- sh, deep
abbrev pub bin_entries : Entries
bin_entries = entry (115 ∷ 104 ∷ []) sh (entry (100 ∷ 101 ∷ 101 ∷ 112 ∷ []) deep no_entries)

abbrev pub bin : Node
bin = node (attributes 2 448 0 0) (directory bin_entries)

abbrev pub link : Node
link = node (attributes 6 511 0 0) (symlink (row_from 5 4))

abbrev pub disk : Node
disk = node (attributes 7 432 8 1) block

abbrev pub tty : Node
tty = node (attributes 8 400 4 64) character

abbrev pub log : Node
log = node (attributes 9 7 0 0) socket

abbrev pub empty : Node
empty = node (attributes 10 0 0 0) (directory no_entries)

-- bin, a b%, disk, tty, log, c3 a9 7f (hexadecimal), empty
abbrev pub root_entries : Entries
root_entries =
    entry (98 ∷ 105 ∷ 110 ∷ []) bin
    (entry (97 ∷ 32 ∷ 98 ∷ 37 ∷ []) link
    (entry (100 ∷ 105 ∷ 115 ∷ 107 ∷ []) disk
    (entry (116 ∷ 116 ∷ 121 ∷ []) tty
    (entry (108 ∷ 111 ∷ 103 ∷ []) log
    (entry (195 ∷ 169 ∷ 127 ∷ []) sh
    (entry (101 ∷ 109 ∷ 112 ∷ 116 ∷ 121 ∷ []) empty no_entries))))))

abbrev pub root : Node
root = node (attributes 1 493 0 0) (directory root_entries)
