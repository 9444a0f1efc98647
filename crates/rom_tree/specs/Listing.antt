-- `list_text`: the preorder text of a tree. `line`: the line of one name of a node. (This project's
-- own.)
use Rattle.std.specs.Prelude.{ℕ, List, [], ◌∷◌, ◌++◌, decimal, if◌then◌else◌}
use Rattle.rom_fields.specs.Texts.{octal, escaped}
use Rattle.rom_tree.specs.declared.types.Kind.{Kind}
use Rattle.rom_tree.specs.declared.types.Kind.TheVariants.{Directory, Regular, Symlink, Block}
use Rattle.rom_tree.specs.declared.types.Kind.TheVariants.{Character, Socket, Fifo}
use Rattle.rom_tree.specs.declared.types.Stat.{Stat}
use Rattle.rom_tree.specs.Image.{stat_of, contents_of}
use Rattle.rom_tree.specs.Tree.{Node, node, Body, directory, Entries, no_entries, entry, is_link}

-- d, f, l, b, c, s, p
abbrev pub kind_letter : Kind → ℕ
kind_letter Directory = 100
kind_letter Regular = 102
kind_letter Symlink = 108
kind_letter Block = 98
kind_letter Character = 99
kind_letter Socket = 115
kind_letter Fifo = 112

-- what follows the path: a space and a link's text
abbrev pub target_text : List ℕ → Node → List ℕ
target_text b x = if is_link x then 32 ∷ escaped (contents_of b x) else []

-- INO KIND MODE UID GID SIZE MAJOR MINOR
unfoldable pub stat_text : Stat → List ℕ
stat_text s =
    decimal s.ino ++ (32 ∷ kind_letter s.kind ∷ 32 ∷ [] ++ (octal s.mode
    ++ (32 ∷ [] ++ (decimal s.uid ++ (32 ∷ [] ++ (decimal s.gid ++ (32 ∷ [] ++ (decimal s.size
    ++ (32 ∷ [] ++ (decimal s.major ++ (32 ∷ [] ++ decimal s.minor)))))))))))

-- the line of these: PATH and what follows it come after them, and a line feed
unfoldable pub stat_line : List ℕ → List ℕ → Stat → List ℕ
stat_line path target s = stat_text s ++ (32 ∷ [] ++ (path ++ (target ++ 10 ∷ [])))

-- a node's line, if the image has these bytes
unfoldable pub line : List ℕ → List ℕ → Node → List ℕ
line b path x = stat_line path (target_text b x) (stat_of x)

-- the path of a name in the directory at `path`, which is empty for the root
abbrev pub below : List ℕ → List ℕ → List ℕ
below path name = path ++ 47 ∷ escaped name

-- the lines of all names below the node at a path
unfoldable mutual
  pub node_lines : List ℕ → List ℕ → Node → List ℕ
  node_lines b path (node a body) = body_lines b path body

  pub body_lines : List ℕ → List ℕ → Body → List ℕ
  body_lines b path (directory es) = entries_lines b path es
  body_lines b path _ = []

  pub entries_lines : List ℕ → List ℕ → Entries → List ℕ
  entries_lines b path no_entries = []
  entries_lines b path (entry name x es) =
      line b (below path name) x ++ (node_lines b (below path name) x ++ entries_lines b path es)

-- the root's line, and those below it
unfoldable pub list_text : List ℕ → Node → List ℕ
list_text b t = line b (47 ∷ []) t ++ node_lines b [] t
