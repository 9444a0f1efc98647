-- The names of files, split at their last slash: the directory that a name is in, and the name in
-- it; and the names of parts, which are written beside a file. (This project's own.)
use Rattle.std.specs.Prelude.{◌≡◌, ◌≢◌, ℕ, ◌<◌, List, [], ◌∷◌, ◌++◌, length, get_or, replicate}
use Rattle.std.specs.Prelude.{Option, Some, None, codes}

-- no byte is a slash
abbrev pub HasNoSlash : List ℕ → Type 0
HasNoSlash bs = (i : ℕ) → i < length bs → get_or bs i 0 ≢ 47

-- a path is a last name, or what is before its last slash and a last name
abbrev pub IsSplit : List ℕ → Option (List ℕ) → List ℕ → Type 0
IsSplit path None last = (path ≡ last) × HasNoSlash last
IsSplit path (Some front) last = (path ≡ front ++ 47 ∷ last) × HasNoSlash last

-- the directory before a last name: the current one, or what is before the slash, or the root
abbrev pub or_root : List ℕ → List ℕ
or_root [] = codes "/"
or_root (b ∷ front) = b ∷ front

abbrev pub directory_at : Option (List ℕ) → List ℕ
directory_at None = codes "."
directory_at (Some front) = or_root front

-- `directory` is the directory that a name is in
abbrev pub IsDirectoryOf : List ℕ → List ℕ → Type 0
IsDirectoryOf name directory =
    (front : Option (List ℕ)) × (last : List ℕ) × IsSplit name front last
    × (directory ≡ directory_at front)

-- `last` is the name that a file has in its directory
abbrev pub IsNameInDirectory : List ℕ → List ℕ → Type 0
IsNameInDirectory name last = (front : Option (List ℕ)) × IsSplit name front last

-- `base` is the name of a directory without the slashes at its end
abbrev pub IsBase : List ℕ → List ℕ → Type 0
IsBase directory base =
    (n : ℕ) × (directory ≡ base ++ replicate n 47) × ((front : List ℕ) → base ≢ front ++ 47 ∷ [])

-- the name of a part in its directory, from the file's name and the digits of a number
abbrev pub part_name : List ℕ → List ℕ → List ℕ
part_name name digits = codes "." ++ (name ++ (codes ".romtool-" ++ (digits ++ codes ".part")))

-- a name in the directory before a last name
abbrev pub beside : Option (List ℕ) → List ℕ → List ℕ
beside None name = name
beside (Some front) name = front ++ codes "/" ++ name

-- `path` is that of the part of a file with these digits, beside the file
abbrev pub IsPartOf : List ℕ → List ℕ → List ℕ → Type 0
IsPartOf whole digits path =
    (front : Option (List ℕ)) × (last : List ℕ) × IsSplit whole front last
    × (path ≡ beside front (part_name last digits))
