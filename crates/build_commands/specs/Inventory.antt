-- The lines of a manifest of a directory as it is. (This project's own.)
use Rattle.std.specs.Prelude.{ℕ, ◌==◌, ◌&&◌, Bool, true, false, if◌then◌else◌}
use Rattle.std.specs.Prelude.{List, [], ◌∷◌, ◌++◌}
use Rattle.std.specs.Prelude.{drop, find, Option, Some, None, string_bytes}
use Rattle.manifest.specs.declared.line.Line.{Line}
use Rattle.manifest.specs.declared.line.Word.{Word}
use Rattle.manifest.specs.declared.line.Word.TheVariants.{Dir, File, Slink, Block, Character, Fifo}
use Rattle.manifest.specs.declared.line.Word.TheVariants.{Socket, Hard, Same}
use Rattle.formats.specs.declared.format.Format.{Format}
use Rattle.formats.specs.declared.format.Format.TheVariants.{Cramfs, CramfsBig}
use Rattle.build_commands.specs.Nearest.{nearest_in}
use Rattle.build_commands.specs.declared.inventory.FileKind.{FileKind}
use Rattle.build_commands.specs.declared.inventory.FileKind.TheVariants as kind
use Rattle.build_commands.specs.declared.inventory.NamedFile.{NamedFile}

-- the root, if nothing is left of a name
abbrev pub or_root : List ℕ → List ℕ
or_root [] = 47 ∷ []
or_root (b ∷ bs) = b ∷ bs

-- The path of a file that was found by a name: the name without its first bytes, as many as the
-- scanned directory's name has; or the root, if nothing is left.
abbrev pub path_behind : ℕ → List ℕ → List ℕ
path_behind front place = or_root (drop front place)

-- the path of a file that was found
abbrev pub path_of : NamedFile → List ℕ
path_of f = path_behind f.front (string_bytes f.place)

-- the alignment of a regular file: the one that was asked for, if it is executed in place;
-- otherwise the usual one
abbrev pub aligned : ℕ → Bool → ℕ
aligned align is_program = if is_program then align else 4

-- the line of a directory with the path, the mode and the owner of a file
abbrev pub plain_line : NamedFile → Line
plain_line f = record {
  number = 0;
  word = Dir;
  path = path_behind f.front (string_bytes f.place);
  mode = f.mode;
  uid = f.uid;
  gid = f.gid;
  align = 0;
  major = 0;
  minor = 0;
  text = [];
}

-- the line of a file of some kind; a regular file's source is the name by which it was found
abbrev pub line_by : FileKind → NamedFile → Line → Line
line_by kind.Directory f l = l
line_by kind.Regular f l =
    record l { word = File; align = f.align; text = string_bytes f.place }
line_by (kind.Symlink target) f l = record l { word = Slink; text = string_bytes target }
line_by (kind.Block d) f l = record l { word = Block; major = d.major; minor = d.minor }
line_by (kind.Character d) f l = record l { word = Character; major = d.major; minor = d.minor }
line_by kind.Fifo f l = record l { word = Fifo }
line_by kind.Socket f l = record l { word = Socket }

-- the line of a file as the system reports it
abbrev pub found_line : NamedFile → Line
found_line f = line_by f.kind f (plain_line f)

-- cramfs has no further names of a file
abbrev pub has_hard_links : Option Format → Bool
has_hard_links (Some Cramfs) = false
has_hard_links (Some CramfsBig) = false
has_hard_links _ = true

-- one more name of the file at the path `old`; a directory has none
abbrev pub hard_line : Word → Line → List ℕ → Line
hard_line Dir l old = l
hard_line _ l old = record {
  number = l.number;
  word = Hard;
  path = l.path;
  mode = 0;
  uid = 0;
  gid = 0;
  align = 0;
  major = 0;
  minor = 0;
  text = old;
}

-- a regular file with the contents of the one at the path `old`
abbrev pub same_line : Word → Line → List ℕ → Line
same_line File l old = record l { word = Same; align = 0; text = old }
same_line _ l old = l

-- the line of a further name, if that of a first one is l
abbrev pub further_line : Option Format → Line → List ℕ → Line
further_line o l old = if has_hard_links o then hard_line l.word l old else same_line l.word l old

-- the line with attributes that the format can hold, if a format was chosen
abbrev pub fitted : Option Format → Line → Line
fitted None l = l
fitted (Some f) l = nearest_in f l

-- the line of a name, given the first of the earlier names of the same file
abbrev pub line_behind : Option Format → Option NamedFile → Line → Line
line_behind o None l = l
line_behind o (Some first) l =
    further_line o l (path_behind first.front (string_bytes first.place))

abbrev pub name_line : Option Format → Option NamedFile → NamedFile → Line
name_line o first f = fitted o (line_behind o first (found_line f))

-- whether a file has several links, and the inode of this device and number
abbrev pub is_linked : ℕ → ℕ → NamedFile → Bool
is_linked device number f = f.has_links && (f.inode.device == device) && (f.inode.number == number)

-- the first of some files that has several links, and this number on this device
abbrev pub first_of : ℕ → ℕ → List NamedFile → Option NamedFile
first_of device number fs = find (is_linked device number) fs

-- the first of some files of which this one is a further name
abbrev pub first_link : NamedFile → List NamedFile → Option NamedFile
first_link f fs = if f.has_links then first_of f.inode.device f.inode.number fs else None

-- the lines of some files, which follow others
abbrev pub lines_behind : Option Format → List NamedFile → List NamedFile → List Line
lines_behind o before [] = []
lines_behind o before (f ∷ fs) =
    name_line o (first_link f before) f
    ∷ lines_behind o (before ++ f ∷ []) fs

-- the lines of all files, in their order
abbrev pub lines_found : Option Format → List NamedFile → List Line
lines_found o fs = lines_behind o [] fs
