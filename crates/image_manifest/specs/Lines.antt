-- `member_lines`: the lines of an image's manifest, one for each name in preorder. Their sources
-- are in a directory. `node_line`, `hard_line`: the line of a node at a path, and that of a further
-- name. (This project's own.)
use Rattle.std.specs.Prelude.{ℕ, ◌==◌, List, [], ◌∷◌, ◌++◌, find, Option, Some, None, if◌then◌else◌}
use Rattle.manifest.specs.declared.line.Line.{Line}
use Rattle.manifest.specs.declared.line.Word.{Word}
use Rattle.manifest.specs.declared.line.Word.TheVariants as word
use Rattle.rom_tree.specs.declared.types.Kind.{Kind}
use Rattle.rom_tree.specs.declared.types.Kind.TheVariants.{Directory, Regular, Symlink}
use Rattle.rom_tree.specs.declared.types.Kind.TheVariants.{Block, Character, Socket, Fifo}
use Rattle.rom_tree.specs.declared.types.Stat.{Stat}
use Rattle.rom_tree.specs.Image.{Image, contents_of, stat_of}
use Rattle.rom_tree.specs.Names.{Name, names}
use Rattle.rom_tree.specs.Runs.{front_of}
use Rattle.rom_tree.specs.Tree.{Node, kind_of, ino_of, is_directory, places_of}
use Rattle.elf_format.specs.InPlace.{needs_pages}
use Rattle.image_manifest.specs.declared.rules.FileRules.{FileRules}

abbrev pub word_of : Kind → Word
word_of Directory = word.Dir
word_of Regular = word.File
word_of Symlink = word.Slink
word_of Block = word.Block
word_of Character = word.Character
word_of Socket = word.Socket
word_of Fifo = word.Fifo

-- The alignment of a file: that of the rules if it needs pages of its own to be executed in place,
-- otherwise 4. A file that is in several runs is judged by its first one.
unfoldable pub file_align : Image → FileRules → Node → ℕ
file_align m rules x =
    if needs_pages (front_of m.bytes (places_of x)) then rules.align else 4

-- only the line of a file has an alignment
abbrev pub align_of : Kind → ℕ → ℕ
align_of Regular align = align
align_of _ align = 0

-- the text of a file is its source, and that of a link is its target
abbrev pub text_of : Kind → List ℕ → List ℕ → List ℕ
text_of Regular source target = source
text_of Symlink source target = target
text_of _ source target = []

-- the line of a path, a text and an alignment, with the attributes of a node
abbrev pub line_with : List ℕ → List ℕ → ℕ → Stat → Line
line_with path text align s = record {
  number = 0;
  word = word_of s.kind;
  path = path;
  mode = s.mode;
  uid = s.uid;
  gid = s.gid;
  align = align_of s.kind align;
  major = s.major;
  minor = s.minor;
  text = text;
}

-- The line of a node at a path. The source of a file is its path in the directory.
abbrev pub node_line : Image → FileRules → List ℕ → Node → Line
node_line m rules path x =
    line_with path (text_of (kind_of x) (rules.directory.now ++ path) (contents_of m.bytes x))
    (file_align m rules x) (stat_of x)

-- the line of a further name of the file at the path `old`
abbrev pub hard_line : List ℕ → List ℕ → Line
hard_line path old = record {
  number = 0;
  word = word.Hard;
  path = path;
  mode = 0;
  uid = 0;
  gid = 0;
  align = 0;
  major = 0;
  minor = 0;
  text = old;
}

-- the first of these names whose node has this number
abbrev pub first_name : ℕ → List Name → Option Name
first_name number ns = find (λ n. ino_of n.node == number) ns

-- the line of a name, by the name of its node that comes before it, if there is one
abbrev pub line_by : Image → FileRules → Name → Option Name → Line
line_by m rules n None = node_line m rules n.path n.node
line_by m rules n (Some old) = hard_line n.path old.path

-- the line of a name behind others; a directory has a line of its own at each name
abbrev pub line_behind : Image → FileRules → List Name → Name → Line
line_behind m rules before n =
    line_by m rules n (if is_directory n.node then None else first_name (ino_of n.node) before)

-- the lines of names, behind others
abbrev pub lines_behind : Image → FileRules → List Name → List Name → List Line
lines_behind m rules before [] = []
lines_behind m rules before (n ∷ ns) =
    line_behind m rules before n ∷ lines_behind m rules (before ++ n ∷ []) ns

-- the lines of all names, with sources in this directory
unfoldable pub member_lines : Image → FileRules → List Line
member_lines m rules = lines_behind m rules [] (names m.tree)
