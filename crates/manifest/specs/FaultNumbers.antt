-- The number of each fault of a manifest, such as `BAD_WORD`; docs/MANIFEST.md explains the faults.
-- (This project's own.)
use Rattle.std.specs.Prelude.{ℕ}

-- an unknown word, a wrong number of fields for it, an empty field, or a device that is neither `b`
-- nor `c`
abbrev pub BAD_WORD : ℕ
BAD_WORD = 1

-- a field that is not a number of its kind
abbrev pub BAD_NUMBER : ℕ
BAD_NUMBER = 2

-- a text that is not a path, or a name or a link text that is too long or has a zero byte
abbrev pub BAD_PATH : ℕ
BAD_PATH = 3

-- no earlier line makes the directory that the path is in
abbrev pub NO_PARENT : ℕ
NO_PARENT = 4

-- an earlier line has the path, or names the volume
abbrev pub EXISTS : ℕ
EXISTS = 5

-- an alignment that is not a power of two from 4 to 65,536
abbrev pub BAD_ALIGN : ℕ
BAD_ALIGN = 6

-- `hard` or `same` names a path that does not exist, or whose file is not of the right kind
abbrev pub BAD_TARGET : ℕ
BAD_TARGET = 7
