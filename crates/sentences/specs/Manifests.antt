-- The faults of a manifest in words, by number. (This project's own.)
use Rattle.std.specs.Prelude.{ℕ, List, ◌==◌, if◌then◌else◌, codes}
use Rattle.manifest.specs.FaultNumbers.{BAD_WORD, BAD_NUMBER, BAD_PATH, NO_PARENT, EXISTS}
use Rattle.manifest.specs.FaultNumbers.{BAD_ALIGN, BAD_TARGET}

-- the sentence of the fault of this number
abbrev pub manifest_sentence : ℕ → List ℕ
manifest_sentence n =
    if n == BAD_WORD then
    codes "an unknown word, a wrong number of fields, an empty field, or a nod line with neither b nor c"
    else (if n == BAD_NUMBER then
    codes "a mode is not four octal digits, or another number is not decimal or not below 2^32"
    else (if n == BAD_PATH then
    codes "a path, a link's text or a volume's name is not valid"
    else (if n == NO_PARENT then
    codes "no earlier line makes the parent directory of the path"
    else (if n == EXISTS then
    codes "an earlier line already has this path, or already names the volume"
    else (if n == BAD_ALIGN then
    codes "the alignment is not a power of two from 4 to 65536"
    else (if n == BAD_TARGET then
    codes "OLD of a hard or same line is not the path of an earlier file of the right kind"
    else codes "no rule has this number"))))))
