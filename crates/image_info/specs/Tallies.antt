-- `tally_of`: the number of names that lead to nodes of each kind. `bytes_of_files`: the number of
-- bytes of all files, each counted once. (This project's own.)
use Rattle.std.specs.Prelude.{ℕ, ◌+◌, ◌==◌, ◌&&◌, not, Bool, true, false, if◌then◌else◌, List, []}
use Rattle.std.specs.Prelude.{◌∷◌, length}
use Rattle.std.specs.List.{list_any}
use Rattle.rom_tree.specs.declared.types.Kind.{Kind}
use Rattle.rom_tree.specs.declared.types.Kind.TheVariants.{Directory, Regular, Symlink}
use Rattle.rom_tree.specs.Tree.{Node, ino_of, kind_of, places_of}
use Rattle.rom_tree.specs.Names.{Name}
use Rattle.image_info.specs.declared.tally.Tally.{Tally}

abbrev pub is_file : Kind → Bool
is_file Regular = true
is_file _ = false

abbrev pub is_directory : Kind → Bool
is_directory Directory = true
is_directory _ = false

abbrev pub is_symlink : Kind → Bool
is_symlink Symlink = true
is_symlink _ = false

-- devices, pipes and sockets
abbrev pub is_other : Kind → Bool
is_other Directory = false
is_other Regular = false
is_other Symlink = false
is_other _ = true

-- the number of names that lead to a node of such a kind
abbrev pub how_many : (Kind → Bool) → List Name → ℕ
how_many is [] = 0
how_many is (n ∷ ns) = (if is (kind_of n.node) then 1 else 0) + how_many is ns

abbrev pub is_among : List ℕ → ℕ → Bool
is_among ks i = list_any (λ k. k == i) ks

-- the number of bytes of a regular file whose number is none of the earlier ones
abbrev pub new_bytes : List ℕ → Node → ℕ
new_bytes earlier x =
    if is_file (kind_of x) && not (is_among earlier (ino_of x)) then length (places_of x)
    else 0

-- The number of bytes of the regular files to which some names lead. Nodes of the earlier numbers
-- are already counted. Each file counts once, for any number of its names.
abbrev pub bytes_of_files : List ℕ → List Name → ℕ
bytes_of_files earlier [] = 0
bytes_of_files earlier (n ∷ ns) =
    new_bytes earlier n.node + bytes_of_files (ino_of n.node ∷ earlier) ns

abbrev pub tally_of : List Name → Tally
tally_of ns = record {
  files = how_many is_file ns;
  directories = how_many is_directory ns;
  links = how_many is_symlink ns;
  others = how_many is_other ns;
  contents = bytes_of_files [] ns;
}
