-- `usual`: the limits under which a built image is accepted. (This project's own.)
use Rattle.rom_tree.specs.declared.types.Limits.{Limits}

-- the usual limits: 2^20 references, and 64 names on the way to an entry
abbrev pub usual : Limits
usual = record { references = 1048576; depth = 64 }
