-- Numbers of entries of an open directory: `entries_at_cursor`, `told_on`, `seekdir_on`. (After
-- POSIX.1-2017, telldir() and seekdir(). The numbers and the refusals are this project's own.)
use Rattle.std.specs.Prelude.{ℕ, min, nat_lt, Ok, Err, if◌then◌else◌}
use Rattle.rom_tree.specs.Tree.{Node, Entries, entries_of, entry_count, is_directory}
use Rattle.rom_tree.specs.Image.{Image, image_node}
use Rattle.rom_tree.specs.Frames.{entries_left}
use Rattle.open_files.specs.declared.error.CallError.TheVariants.{Einval}
use Rattle.open_files.specs.Machine.{Outcome, directory_only}

-- the entries of directory d from its cursor c on
abbrev pub entries_after : Image → ℕ → ℕ → Entries
entries_after m d c = entries_left (image_node m d) (m.cursor_index d c)

-- the number of entries before the position of an open directory, and 0 of a file
abbrev pub told_on : Node → ℕ → ℕ
told_on x p = if is_directory x then min p (entry_count (entries_of x)) else 0

-- the position after so many entries; a directory that has fewer is refused
abbrev pub seekdir_on : ℕ → Node → Outcome (Unit {0})
seekdir_on k x =
    directory_only (is_directory x)
    (if nat_lt (entry_count (entries_of x)) k then Err Einval else Ok (tt, k))
