-- `begins_with`: a writer still holds what it held at first. (This project's own.)
use Rattle.std.specs.Prelude.{ℕ, Bool, true, false, List, length, take, Option, Some, None}
use Rattle.std.specs.Str.{bytes_eq}

-- new bytes begin with the old ones; true if the old ones are not known
abbrev pub begins_with : Option (List ℕ) → Option (List ℕ) → Bool
begins_with None new = true
begins_with (Some xs) None = false
begins_with (Some xs) (Some ys) = bytes_eq (take (length xs) ys) xs
