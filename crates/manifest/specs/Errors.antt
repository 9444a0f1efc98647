-- `name_of_fault`: the name of each fault of a manifest by its number, and `Unknown` for any other
-- number. (This project's own.)
use Rattle.std.specs.Prelude.{ℕ, List, ◌==◌, if◌then◌else◌, codes}
use Rattle.manifest.specs.FaultNumbers.{BAD_WORD, BAD_NUMBER, BAD_PATH, NO_PARENT, EXISTS}
use Rattle.manifest.specs.FaultNumbers.{BAD_ALIGN, BAD_TARGET}

abbrev pub name_of_fault : ℕ → List ℕ
name_of_fault n =
    if n == BAD_WORD then codes "BadWord"
    else (if n == BAD_NUMBER then codes "BadNumber"
    else (if n == BAD_PATH then codes "BadPath"
    else (if n == NO_PARENT then codes "NoParent"
    else (if n == EXISTS then codes "Exists"
    else (if n == BAD_ALIGN then codes "BadAlign"
    else (if n == BAD_TARGET then codes "BadTarget"
    else codes "Unknown"))))))
