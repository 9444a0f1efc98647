-- The names of a file and of its parts, as numbers. (This project's own.)
use Rattle.atomic_file.specs.declared.names.Names.{Names}

-- the file is 0, and its part k is k + 1, for the hundred parts from 0 to 99
abbrev pub part_names : Names
part_names = record { out = 0; first = 1; end = 101 }
