-- What a scan finds, as entries of an image. (This project's own.)
use Rattle.std.specs.Prelude.{ℕ, drop, if◌then◌else◌, string_bytes}
use Rattle.build_commands.specs.Scanned.{Entry, directory, file}
use Rattle.build_commands.specs.declared.scanning.Found.{Found}

-- its path is its name without the first bytes, as many as the scanned directory's name has; a
-- file's source is its name
abbrev pub entry_of : ℕ → Found → Entry
entry_of front f = if f.is_directory then directory (drop front (string_bytes f.place))
    else file (drop front (string_bytes f.place)) (string_bytes f.place)
