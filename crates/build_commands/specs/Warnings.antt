-- The warnings of a build, by number and name: an empty manifest, and what Linux misreads, as in
-- `linux_misreads`. (This project's own.)
use Rattle.std.specs.Prelude.{ℕ, List, ◌==◌, if◌then◌else◌, codes}

abbrev pub name_of_warning : ℕ → List ℕ
name_of_warning n =
    if n == 0 then codes "Empty"
    else (if n == 1 then codes "LastBlock"
    else (if n == 2 then codes "SharedTable"
    else (if n == 3 then codes "NameCut"
    else (if n == 4 then codes "NameTooLong"
    else (if n == 5 then codes "Volume"
    else (if n == 6 then codes "Device"
    else (if n == 7 then codes "NamePadded"
    else (if n == 8 then codes "LinkCut"
    else (if n == 9 then codes "RootMode"
    else (if n == 10 then codes "OtherPlace"
    else codes "Unknown"))))))))))
