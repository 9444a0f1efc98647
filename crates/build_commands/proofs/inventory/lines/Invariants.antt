use Rattle.std.proofs.Common.{◌≡◌, ℕ, map, take}
use Rattle.manifest.specs.Entries.{line_of}
use Rattle.build_commands.specs.Inventory.{first_of, lines_found}
use Rattle.build_commands.specs.Noted.{noted}
use Rattle.build_commands.proofs.inventory.lines.Given as goal

abbrev pub invariant-loop-file : goal.invariant-loop-file
invariant-loop-file l =
    (map line_of l.made.items ≡ lines_found l.format (take l.file-index l.found))
    × ((device number : ℕ) → noted l.firsts device number ≡ first_of device number (take l.file-index l.found))
