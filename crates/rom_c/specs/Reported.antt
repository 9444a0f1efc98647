-- The reports to C about a path: `led_reported`, `within_reported`, `shown_reported`, `IsText`;
-- and about a node: `stat_reported`, `entry_reported`, `IsTextAt`. `no_node`, `no_stat`,
-- `no_place`: all except the error is 0. (This project's own.)
use Rattle.std.specs.Prelude.{◌≡◌, ℕ, ◌+◌, ◌<◌, nat_lt, Bool, true, false, length, slice_index}
use Rattle.std.specs.Prelude.{List, Option, Some, None, Result, Ok, Err, if◌then◌else◌}
use Rattle.rom_tree.specs.declared.types.Kind.{Kind}
use Rattle.rom_tree.specs.declared.types.Kind.TheVariants.{Directory, Regular, Symlink, Block}
use Rattle.rom_tree.specs.declared.types.Kind.TheVariants.{Character, Socket, Fifo}
use Rattle.rom_tree.specs.declared.types.Stat.{Stat}
use Rattle.rom_tree.specs.Tree.{Node, entries_of, ino_of, is_directory, is_link, places_of}
use Rattle.rom_tree.specs.Image.{find_entry, stat_of}
use Rattle.path_walk.specs.declared.error.WalkError.{WalkError}
use Rattle.path_walk.specs.Errors.{error_number}
use Rattle.rom_c.specs.declared.answers.RomtoolNode.{RomtoolNode}
use Rattle.rom_c.specs.declared.answers.RomtoolStat.{RomtoolStat}
use Rattle.rom_c.specs.declared.answers.RomtoolPlace.{RomtoolPlace}

abbrev pub kind_number : Kind → ℕ
kind_number Directory = 1
kind_number Regular = 2
kind_number Symlink = 3
kind_number Block = 4
kind_number Character = 5
kind_number Socket = 6
kind_number Fifo = 7

-- An error; all other numbers are 0.

abbrev pub no_node : ℕ → RomtoolNode
no_node e = record { error = e; node = 0 }

abbrev pub no_stat : ℕ → RomtoolStat
no_stat e = record {
  error = e;
  ino = 0;
  kind = 0;
  mode = 0;
  uid = 0;
  gid = 0;
  size = 0;
  major = 0;
  minor = 0;
}

abbrev pub no_place : ℕ → RomtoolPlace
no_place e = record { error = e; at = 0; len = 0 }

abbrev pub stat_reported : Stat → RomtoolStat
stat_reported s = record {
  error = 0;
  ino = s.ino;
  kind = kind_number s.kind;
  mode = s.mode;
  uid = s.uid;
  gid = s.gid;
  size = s.size;
  major = s.major;
  minor = s.minor;
}

-- the node to which a path leads, or the error
abbrev pub led_reported : Result Node WalkError → RomtoolNode
led_reported (Ok x) = record { error = 0; node = ino_of x }
led_reported (Err e) = no_node (error_number e)

-- the same, if a look-up compares no more names than a budget; otherwise the error is 16
abbrev pub within_reported : ℕ → ℕ → RomtoolNode → RomtoolNode
within_reported budget names r = if nat_lt budget names then no_node 16 else r

-- the node of an entry, or the error 1 if there is none
abbrev pub found_reported : Option Node → RomtoolNode
found_reported None = no_node 1
found_reported (Some x) = record { error = 0; node = ino_of x }

-- the node of the first entry of this name in a directory; of another node the error is 2
abbrev pub entry_reported : Node → List ℕ → RomtoolNode
entry_reported x name =
    if is_directory x then found_reported (find_entry (entries_of x) name) else no_node 2

-- the kind and numbers of that node, or the error
abbrev pub shown_reported : Result Node WalkError → RomtoolStat
shown_reported (Ok x) = stat_reported (stat_of x)
shown_reported (Err e) = no_stat (error_number e)

-- r is the offset and the length of the bytes of a link's text, all of them, one after the other
abbrev pub IsTextAt : Node → RomtoolPlace → Bool → Type 0
IsTextAt x r true =
    (r.error ≡ 0) × (r.len ≡ length (places_of x))
    × ((k : ℕ) → k < r.len → slice_index (places_of x) k ≡ r.at + k)
IsTextAt x r false = r ≡ no_place 5

-- the offset and the length of the text of the link to which a path leads, or the error
abbrev pub IsText : Result Node WalkError → RomtoolPlace → Type 0
IsText (Ok x) r = IsTextAt x r (is_link x)
IsText (Err e) r = r ≡ no_place (error_number e)
