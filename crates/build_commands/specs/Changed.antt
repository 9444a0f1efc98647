-- The differences of a line from the file that was found. (This project's own.)
use Rattle.std.specs.Prelude.{ℕ, ◌+◌, ◌/◌, ◌%◌, ◌==◌, ◌&&◌, not, Bool, true, false, List, [], ◌∷◌}
use Rattle.std.specs.Prelude.{if◌then◌else◌}
use Rattle.manifest.specs.Entries.{line_of}
use Rattle.manifest.specs.declared.entry.Entry.{Entry}
use Rattle.manifest.specs.declared.line.Line.{Line}
use Rattle.manifest.specs.declared.line.Word.{Word}
use Rattle.manifest.specs.declared.line.Word.TheVariants.{Dir, File, Same, Hard}
use Rattle.build_commands.specs.declared.inventory.NamedFile.{NamedFile}

-- a further name has no attributes of its own
abbrev pub has_attributes : Word → Bool
has_attributes Hard = false
has_attributes _ = true

-- a directory or a regular file, which users read as its mode permits
abbrev pub has_readers : Word → Bool
has_readers Dir = true
has_readers File = true
has_readers Same = true
has_readers _ = false

-- the owner, the group and others may read a file of this mode
abbrev pub all_may_read : ℕ → Bool
all_may_read mode = (mode / 256 % 2 == 1) && ((mode / 32 % 2 == 1) && (mode / 4 % 2 == 1))

-- some number of the line is not the file's
abbrev pub is_changed : Word → ℕ → ℕ → Bool
is_changed w old new = has_attributes w && not (old == new)

-- all may read what the line makes, but not all may read the file
abbrev pub is_opened : Line → NamedFile → Bool
is_opened l f = has_readers l.word && (all_may_read l.mode && not (all_may_read f.mode))

-- the line has another owner, group or mode than the file
abbrev pub has_other_owner : Entry → NamedFile → Bool
has_other_owner e f = is_changed (line_of e).word f.uid (line_of e).uid

abbrev pub has_other_group : Entry → NamedFile → Bool
has_other_group e f = is_changed (line_of e).word f.gid (line_of e).gid

abbrev pub has_other_mode : Entry → NamedFile → Bool
has_other_mode e f = is_changed (line_of e).word f.mode (line_of e).mode

abbrev pub one_if : Bool → ℕ
one_if holds = if holds then 1 else 0

-- how many lines differ so from the file of the same number
abbrev pub count_by : (Entry → NamedFile → Bool) → List Entry → List NamedFile → ℕ
count_by differs [] fs = 0
count_by differs (e ∷ es) [] = 0
count_by differs (e ∷ es) (f ∷ fs) = one_if (differs e f) + count_by differs es fs
