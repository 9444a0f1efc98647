-- `Rises`: a list is in the order of a number that each member has, and no two members have the
-- same number. (This project's own.)
use Rattle.std.specs.Prelude.{ℕ, ◌<◌, List}
use Rattle.record_forest.specs.Members.{Pairs}

-- each number is less than those after it, so none occurs twice
abbrev pub Rises : {X : Type 0} → (X → ℕ) → List X → Type 0
Rises key xs = Pairs (λ a b. key a < key b) xs
