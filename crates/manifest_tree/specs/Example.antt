-- `example`, `example_names`: a small manifest and the names that it means. (This project's own.)
use Rattle.std.specs.Prelude.{ℕ, ◌++◌, List, ◌∷◌, codes, Result, Ok, Err}
use Rattle.rom_tree.specs.declared.types.Kind.{Kind}
use Rattle.rom_tree.specs.declared.types.Kind.TheVariants.{Directory, Regular}
use Rattle.manifest.specs.Lines.{ManifestLines}
use Rattle.manifest.specs.Grammar.{Fault}
use Rattle.manifest_tree.specs.Names.{Fill, no_bytes, source, Inode, Names, nothing, leaf, link}
use Rattle.manifest_tree.specs.Names.{subdirectory}
use Rattle.manifest_tree.specs.Tree.{tree_of}

abbrev pub example : List ℕ
example =
    codes "dir /d 0755 0 0" ++ (10 ∷ (codes "file /b 0644 0 0 16 s"
    ++ (10 ∷ (codes "hard /d/c /b" ++ (10 ∷ codes "same /a 0600 1 2 /d/c")))))

-- the names of a text, if its sources have these sizes
abbrev pub names_by : List ℕ → Result ManifestLines Fault → Names
names_by sizes (Ok m) = tree_of m.lines sizes
names_by sizes (Err e) = nothing

-- a file of the example, with the line that makes it
abbrev pub example_file : ℕ → Kind → ℕ → ℕ → ℕ → ℕ → ℕ → Fill → Inode
example_file line kind mode uid gid align size fill = record {
  line = line;
  kind = kind;
  mode = mode;
  uid = uid;
  gid = gid;
  major = 0;
  minor = 0;
  align = align;
  size = size;
  fill = fill;
}

-- The names of the example, if the source has 5 bytes. Lists are in order. `/d/c` names the file of
-- line 2, and `/a` is a file of its own with the same contents. Modes are octal in the text, and
-- decimal here.
abbrev pub example_names : Names
example_names =
    leaf (codes "a") (example_file 4 Regular 384 1 2 16 5 (source 0))
    (leaf (codes "b") (example_file 2 Regular 420 0 0 16 5 (source 0))
    (subdirectory (codes "d") (example_file 1 Directory 493 0 0 4 0 no_bytes)
    (link (codes "c") (example_file 2 Regular 420 0 0 16 5 (source 0)) nothing)
    nothing))
