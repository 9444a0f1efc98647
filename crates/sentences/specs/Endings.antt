-- Why a command ended early, by the text on standard error. (This project's own.)
use Rattle.std.specs.Prelude.{ℕ, List, Option, Some, None, if◌then◌else◌, codes}
use Rattle.std.specs.Str.{bytes_eq}

-- the sentence of an ending
abbrev pub ending_sentence : List ℕ → Option (List ℕ)
ending_sentence text =
    if bytes_eq text (codes "memory") then
    Some (codes "the system refused more memory")
    else (if bytes_eq text (codes "write fault") then
    Some (codes "not everything could be written to standard output")
    else (if bytes_eq text (codes "read fault") then
    Some (codes "standard input could not be read")
    else (if bytes_eq text (codes "too many reads") then
    Some (codes "standard input had not ended after 2^40 bytes")
    else None)))
