-- `AreMarked`: the header of each file of some names has the bit "executable" exactly if romfs
-- stores this bit of the file's mode. (Linux Documentation/filesystems/romfs.rst. Which modes have
-- it is this project's own.)
use Rattle.std.specs.Prelude.{◌≡◌, ℕ, ◌==◌, Bool, false, List, Some}
use Rattle.rom_tree.specs.declared.types.Kind.{Kind}
use Rattle.rom_tree.specs.declared.types.Kind.TheVariants.{Directory, Regular}
use Rattle.rom_tree.specs.Tree.{Node, ino_of}
use Rattle.romfs_format.specs.Tree.{executable}
use Rattle.manifest_tree.specs.Names.{Inode, Names}
use Rattle.manifest_tree.specs.Shape.{node_under, file_under, with_names}

-- a directory or a regular file with the mode 0755
abbrev pub is_executable : Kind → ℕ → Bool
is_executable Directory mode = mode == 493
is_executable Regular mode = mode == 493
is_executable kind mode = false

-- the header of each file of these names, which is at the number of its node
abbrev pub AreMarked : List ℕ → Node → Inode → Names → Type 0
AreMarked b t root n =
    (q : List (List ℕ)) (x : Node) (i : Inode) → node_under q t ≡ Some x
    → file_under q (with_names root n) ≡ Some i
    → executable b (ino_of x) ≡ is_executable i.kind i.mode
