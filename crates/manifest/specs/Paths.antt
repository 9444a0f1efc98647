-- The paths of a manifest. A path begins with a slash, and its names are between its slashes.
-- `names_of`: the names of a path, if a text is a path. `parent_of`: the directory in which a path
-- is. (This project's own; a slash is the byte 47, and a dot 46.)
use Rattle.std.specs.Prelude.{ℕ, ◌==◌, ◌||◌, nat_lt, not, Bool, true, false, if◌then◌else◌, List}
use Rattle.std.specs.Prelude.{[], ◌∷◌, ◌++◌, length, Option, Some, None}
use Rattle.std.specs.List.{list_any}
use Rattle.std.specs.Str.{bytes_eq}
use Rattle.manifest.specs.Texts.{pieces, is_bad}

-- not a name: empty, `.`, `..`, or longer than 255 bytes
unfoldable pub is_bad_name : List ℕ → Bool
is_bad_name n =
    bytes_eq n [] || (bytes_eq n (46 ∷ []) || (bytes_eq n (46 ∷ 46 ∷ []) || nat_lt 255 (length n)))

-- the names behind the first slash; none if nothing follows it
abbrev pub names_behind : List ℕ → Option (List (List ℕ))
names_behind [] = Some []
names_behind (b ∷ bs) =
    if list_any is_bad_name (pieces 47 (b ∷ bs)) then None else Some (pieces 47 (b ∷ bs))

abbrev pub names_from : List ℕ → Option (List (List ℕ))
names_from [] = None
names_from (b ∷ bs) = if b == 47 then names_behind bs else None

-- The names of a path: none for `/`, and `None` if the text is not a path. A path has at most 4,095
-- bytes and no zero byte.
unfoldable pub names_of : List ℕ → Option (List (List ℕ))
names_of path = if is_bad 4095 path then None else names_from path

-- not a path, or `/` unless `root` holds
abbrev pub is_bad_path : Bool → Option (List (List ℕ)) → Bool
is_bad_path root None = true
is_bad_path root (Some []) = not root
is_bad_path root (Some (n ∷ ns)) = false

-- all names except the last
abbrev pub but_last : List (List ℕ) → List (List ℕ)
but_last [] = []
but_last (n ∷ []) = []
but_last (n ∷ m ∷ ms) = n ∷ but_last (m ∷ ms)

-- names, each behind a slash; the root is the empty text here
abbrev pub path_of : List (List ℕ) → List ℕ
path_of [] = []
path_of (n ∷ ns) = 47 ∷ (n ++ path_of ns)

-- the directory that a path's last name is in
abbrev pub parent_of : Option (List (List ℕ)) → List ℕ
parent_of None = []
parent_of (Some ns) = path_of (but_last ns)
