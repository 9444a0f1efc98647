-- `AreChosen`: the members that patterns choose, and the directories that lead to them. (This
-- project's own.)
use Rattle.std.specs.Prelude.{◌≡◌, ◌<◌, ℕ, ◌==◌, nat_lt, Bool, true, false, cond, List, [], ◌∷◌}
use Rattle.std.specs.Prelude.{map, get_or, length, Option, Some, None}
use Rattle.path_patterns.specs.Several.{fits_any}
use Rattle.path_patterns.specs.declared.pattern.Piece.{Piece}
use Rattle.rom_tree.specs.Image.{Image}
use Rattle.image_manifest.specs.Composed.{path_at}
use Rattle.image_manifest.specs.declared.naming.Member.{Member}
use Rattle.image_manifest.specs.ExtractedMembers.{members_in}
use Rattle.image_manifest.specs.declared.giving.Giving.{Giving}
use Rattle.tree_extract.specs.Choices.{is_chosen, kinds_chosen, kinds_of}
use Rattle.tree_extract.specs.declared.tree.Kind.{Kind}

abbrev pub earlier : ℕ → Option ℕ → Option ℕ
earlier i None = None
earlier i (Some k) = cond (nat_lt k i) (Some k) None

-- the index of the directory that has the member at an index; it is an earlier one
abbrev pub directory_at : List Member → ℕ → Option ℕ
directory_at ms i = earlier i (get_or (map (λ m. m.parent) ms) i None)

-- the directory at this index is chosen
abbrev pub is_chosen_by : List Bool → Option ℕ → Bool
is_chosen_by cs None = false
is_chosen_by cs (Some k) = is_chosen cs k

abbrev pub is_at : ℕ → Option ℕ → Bool
is_at j None = false
is_at j (Some k) = k == j

-- a pattern fits the path of the member at an index
abbrev pub is_named : List (List Piece) → List Member → ℕ → Bool
is_named ps ms i = fits_any ps (path_at ms i)

-- a pattern fits the path of the member at an index, or that of a directory above it
pub data IsWanted (ps : List (List Piece)) (ms : List Member) : ℕ → Type 0 where
  named : (i : ℕ) → is_named ps ms i ≡ true → IsWanted ps ms i
  within : (i k : ℕ) → directory_at ms i ≡ Some k → IsWanted ps ms k → IsWanted ps ms i

-- exactly these are wanted
pub record AreWanted (ps : List (List Piece)) (ms : List Member) (cs : List Bool) : Type 0 where
  pub many : length cs ≡ length ms
  pub only : (i : ℕ) → i < length ms → is_chosen cs i ≡ true → IsWanted ps ms i
  pub each : (i : ℕ) → i < length ms → IsWanted ps ms i → is_chosen cs i ≡ true

-- such a member, or a directory above one
pub data IsOnWay (ps : List (List Piece)) (ms : List Member) : ℕ → Type 0 where
  wanted : (i : ℕ) → IsWanted ps ms i → IsOnWay ps ms i
  above : (i j : ℕ) → j < length ms → directory_at ms j ≡ Some i → IsOnWay ps ms j
      → IsOnWay ps ms i

-- exactly these are chosen
pub record AreChosen (ps : List (List Piece)) (ms : List Member) (cs : List Bool) : Type 0 where
  pub many : length cs ≡ length ms
  pub only : (i : ℕ) → i < length ms → is_chosen cs i ≡ true → IsOnWay ps ms i
  pub each : (i : ℕ) → i < length ms → IsOnWay ps ms i → is_chosen cs i ≡ true

-- what is made of the names of an image: without patterns, all of them, otherwise those that are
-- chosen
abbrev pub AreMadeBy : List (List Piece) → Image → List Member → List Kind → Type 0
AreMadeBy [] m ms ks = (g : Giving) → ks ≡ kinds_of (members_in g m)
AreMadeBy (p ∷ ps) m ms ks =
    (cs : List Bool) × AreChosen (p ∷ ps) ms cs
    × ((g : Giving) → ks ≡ kinds_chosen (kinds_of (members_in g m)) cs)
