-- `file_at`: the file at a path of a manifest, if its sources have these sizes. `tree_of`,
-- `root_of`: the names that a manifest means, and its root. `file_named`: the file of the line with
-- exactly these names. (This project's own.)
use Rattle.std.specs.Prelude.{ℕ, ◌+◌, ◌&&◌, nat_lt, Bool, true, false, if◌then◌else◌, List, [], ◌∷◌}
use Rattle.std.specs.Prelude.{length, reverse, find, get_or, Option, Some, None}
use Rattle.std.specs.Str.{bytes_eq}
use Rattle.std.specs.Ordering.{is_lt, nat_cmp}
use Rattle.std.specs.Cmp.Lexicographic.{slice_cmp}
use Rattle.std.specs.Option.{option_map, option_and_then}
use Rattle.rom_tree.specs.declared.types.Kind.{Kind}
use Rattle.rom_tree.specs.declared.types.Kind.TheVariants as kind
use Rattle.manifest.specs.Paths.{names_of}
use Rattle.manifest.specs.declared.line.Line.{Line}
use Rattle.manifest.specs.declared.line.Word.{Word}
use Rattle.manifest.specs.declared.line.Word.TheVariants.{Dir, File, Slink, Block, Character, Fifo}
use Rattle.manifest.specs.declared.line.Word.TheVariants.{Socket, Hard, Same}
use Rattle.manifest.specs.Lines.{is_file, led, filed}
use Rattle.manifest_tree.specs.Names.{Fill, no_bytes, text, source, Inode, Names, nothing, leaf}
use Rattle.manifest_tree.specs.Names.{link, subdirectory}

-- the number of `file` lines before line n, which is the index of the source that line n names
abbrev pub sources_before : ℕ → List Line → ℕ
sources_before n [] = 0
sources_before n (l ∷ ls) =
    if is_file l.word && nat_lt l.number n then sources_before n ls + 1 else sources_before n ls

abbrev pub plain : Line → Kind → ℕ → ℕ → Fill → Inode
plain l kind align size fill = record {
  line = l.number;
  kind = kind;
  mode = l.mode;
  uid = l.uid;
  gid = l.gid;
  major = l.major;
  minor = l.minor;
  align = align;
  size = size;
  fill = fill;
}

-- a regular file with the contents and the alignment of a `file` line
abbrev pub with_contents : List Line → List ℕ → Line → Option Line → Inode
with_contents lines sizes l None = plain l kind.Regular 4 0 no_bytes
with_contents lines sizes l (Some o) =
    let k = sources_before o.number lines in plain l kind.Regular o.align (get_or sizes k 0)
    (source k)

-- the file that a line makes; a `hard` line makes none of its own
abbrev pub inode_by : List Line → List ℕ → Word → Line → Inode
inode_by lines sizes Dir l = plain l kind.Directory 4 0 no_bytes
inode_by lines sizes File l = with_contents lines sizes l (filed (reverse lines) l.path)
inode_by lines sizes Same l = with_contents lines sizes l (filed (reverse lines) l.path)
inode_by lines sizes Slink l = plain l kind.Symlink 4 (length l.text) (text l.text)
inode_by lines sizes Block l = plain l kind.Block 4 0 no_bytes
inode_by lines sizes Character l = plain l kind.Character 4 0 no_bytes
inode_by lines sizes Fifo l = plain l kind.Fifo 4 0 no_bytes
inode_by lines sizes Socket l = plain l kind.Socket 4 0 no_bytes
inode_by lines sizes Hard l = plain l kind.Regular 4 0 no_bytes

unfoldable pub inode_of : List Line → List ℕ → Line → Inode
inode_of lines sizes l = inode_by lines sizes l.word l

-- the file at a path: that of the line to which the path leads
unfoldable pub file_at : List Line → List ℕ → List ℕ → Option Inode
file_at lines sizes path = option_map (inode_of lines sizes) (led (reverse lines) path)

-- the root, if no line describes it
abbrev pub bare_root : Inode
bare_root = record {
  line = 0;
  kind = kind.Directory;
  mode = 493;
  uid = 0;
  gid = 0;
  major = 0;
  minor = 0;
  align = 4;
  size = 0;
  fill = no_bytes;
}

abbrev pub or_else : {X : Type 0} → X → Option X → X
or_else x None = x
or_else x (Some y) = y

unfoldable pub root_of : List Line → List ℕ → Inode
root_of lines sizes = or_else bare_root (file_at lines sizes (47 ∷ []))

-- one text is before another in unsigned byte order; a proper prefix comes first
abbrev pub is_before : List ℕ → List ℕ → Bool
is_before a b = is_lt (slice_cmp nat_cmp a b)

-- what a name stands for: a file that is not a directory, a file that has a name already, or a
-- directory
pub data What : Type 0 where
  a_leaf : Inode → What
  a_link : Inode → What
  a_directory : Inode → What

abbrev pub named : What → List ℕ → Names → Names
named (a_leaf i) name after = leaf name i after
named (a_link i) name after = link name i after
named (a_directory i) name after = subdirectory name i nothing after

-- a list with one more name, in order
abbrev pub put : What → List ℕ → Names → Names
put w name nothing = named w name nothing
put w name (leaf m i after) =
    if is_before name m then named w name (leaf m i after) else leaf m i (put w name after)
put w name (link m i after) =
    if is_before name m then named w name (link m i after) else link m i (put w name after)
put w name (subdirectory m i own after) =
    if is_before name m then named w name (subdirectory m i own after)
    else subdirectory m i own (put w name after)

-- names with one more path: its last name is put into the list of the directory to which the other
-- names lead
abbrev pub put_at : What → List (List ℕ) → Names → Names
put_at w [] n = n
put_at w (name ∷ []) n = put w name n
put_at w (name ∷ next ∷ more) nothing = nothing
put_at w (name ∷ next ∷ more) (leaf m i after) = leaf m i (put_at w (name ∷ next ∷ more) after)
put_at w (name ∷ next ∷ more) (link m i after) = link m i (put_at w (name ∷ next ∷ more) after)
put_at w (name ∷ next ∷ more) (subdirectory m i own after) =
    if bytes_eq m name then subdirectory m i (put_at w (next ∷ more) own) after
    else subdirectory m i own (put_at w (name ∷ next ∷ more) after)

abbrev pub what_by : Word → Inode → What
what_by Dir i = a_directory i
what_by Hard i = a_link i
what_by _ i = a_leaf i

abbrev pub put_line : Line → Option Inode → Option (List (List ℕ)) → Names → Names
put_line l (Some i) (Some names) n = put_at (what_by l.word i) names n
put_line l (Some i) None n = n
put_line l None names n = n

-- names with the paths of lines, in their order; `all` has all lines
abbrev pub grown : List Line → List ℕ → List Line → Names → Names
grown all sizes [] n = n
grown all sizes (l ∷ ls) n =
    grown all sizes ls (put_line l (file_at all sizes l.path) (names_of l.path) n)

-- The names below the root. Each list is in the order of its names.
unfoldable pub tree_of : List Line → List ℕ → Names
tree_of lines sizes = grown lines sizes lines nothing

-- two lists of names are the same
abbrev pub names_eq : List (List ℕ) → List (List ℕ) → Bool
names_eq [] [] = true
names_eq [] (n ∷ ns) = false
names_eq (m ∷ ms) [] = false
names_eq (m ∷ ms) (n ∷ ns) = bytes_eq m n && names_eq ms ns

-- a line's path has exactly these names
abbrev pub is_named : List (List ℕ) → Option (List (List ℕ)) → Bool
is_named q None = false
is_named q (Some names) = names_eq names q

-- The file to which a list of names leads: the root, or the file at the path of the first line with
-- exactly these names.
abbrev pub file_named : List Line → List ℕ → List (List ℕ) → Option Inode
file_named lines sizes [] = Some (root_of lines sizes)
file_named lines sizes (n ∷ ns) =
    option_and_then (λ l. file_at lines sizes l.path)
    (find (λ l. is_named (n ∷ ns) (names_of l.path)) lines)
