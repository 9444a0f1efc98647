-- `IsFree`: a name that may be in a list of a directory, in an image of any format. `IsName`: a
-- name. (This project's own. A name has no slash, no zero byte and at most 255 bytes: POSIX.1-2017,
-- 3.170 "Filename", and NAME_MAX as Linux has it.)
use Rattle.std.specs.Prelude.{◌≡◌, ◌≢◌, ℕ, ◌<◌, false, List, length, ◌⊎◌}
use Rattle.std.specs.List.{AllByRecursion as Every, Contains}
use Rattle.rom_tree.specs.Dots.{is_dots}
use Rattle.manifest_tree.specs.Names.{Names, nothing, leaf, link, subdirectory}

-- a name
pub record IsName (name : List ℕ) : Type 0 where
  pub named : 0 < length name
  pub short : length name < 256
  pub no_zero : Every (λ x. x ≢ 0) name
  pub no_slash : Contains name 47 → ⊥

-- the name is one of the list
abbrev pub StandsIn : List ℕ → Names → Type 0
StandsIn m nothing = ⊥
StandsIn m (leaf name i after) = (m ≡ name) ⊎ StandsIn m after
StandsIn m (link name i after) = (m ≡ name) ⊎ StandsIn m after
StandsIn m (subdirectory name i own after) = (m ≡ name) ⊎ StandsIn m after

-- a name that may be in a list before these: neither `.` nor `..`, and none of them
pub record IsFree (name : List ℕ) (after : Names) : Type 0 where
  pub written : IsName name
  pub no_dots : is_dots name ≡ false
  pub alone : StandsIn name after → ⊥
