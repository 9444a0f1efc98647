-- For the proofs of a pass through the names in preorder. The open names are the last name and the
-- directories above it: the next name is in one of these. `AreOpen`: these are the ways to the open
-- names. `AreToCome`: each name that is still to come is below a way that is open before it. (This
-- project's own.)
use Rattle.std.specs.Prelude.{◌≡◌, ◌<◌, ℕ, suc, ◌==◌, List, [], ◌∷◌, ◌++◌, length, Option, Some}
use Rattle.std.specs.Prelude.{None, if◌then◌else◌}
use Rattle.rom_tree.specs.Names.{Name, path_below}
use Rattle.image_manifest.specs.Composed.{way_at}
use Rattle.image_manifest.specs.declared.naming.Open.{Open}

-- the number of these before the first one whose way has k bytes
abbrev pub place_of_length : ℕ → List Open → ℕ
place_of_length k [] = 0
place_of_length k (o ∷ os) = if o.len == k then 0 else suc (place_of_length k os)

-- the index of the first one whose way has k bytes
abbrev pub parent_in : ℕ → List Open → Option ℕ
parent_in k [] = None
parent_in k (o ∷ os) = if o.len == k then Some o.index else parent_in k os

-- those up to that one, and one more
abbrev pub opened : ℕ → Open → List Open → List Open
opened k new [] = new ∷ []
opened k new (o ∷ os) = o ∷ (if o.len == k then new ∷ [] else opened k new os)

-- an open name has this way, among all ways
pub record HasWay (all : List (List ℕ)) (o : Open) (w : List ℕ) : Type 0 where
  pub way : way_at all o.index ≡ w
  pub within : o.index < length all
  pub len : o.len ≡ length w

-- these are the ways of the open names, among all ways
unfoldable pub AreOpen : List (List ℕ) → List Open → List (List ℕ) → Type 0
AreOpen all [] [] = Unit {0}
AreOpen all [] (w ∷ ws) = ⊥
AreOpen all (o ∷ os) [] = ⊥
AreOpen all (o ∷ os) (w ∷ ws) = HasWay all o w × AreOpen all os ws

-- each of these has fewer than k bytes
unfoldable pub AreShorter : ℕ → List (List ℕ) → Type 0
AreShorter k [] = Unit {0}
AreShorter k (w ∷ ws) = (length w < k) × AreShorter k ws

-- A name is below one of the ways that are open before it. Behind it, the open ways are those up to
-- that one, and the name's own. `After` holds for them.
pub record StandsBelow (ws : List (List ℕ)) (n : Name)
    (After : List (List ℕ) → Type 0) : Type 0 where
  pub up : List (List ℕ)
  pub way : List ℕ
  pub closed : List (List ℕ)
  pub is : ws ≡ up ++ way ∷ closed
  pub shorter : AreShorter (length way) up
  pub path : n.path ≡ path_below way n.last
  pub after : After (up ++ way ∷ n.path ∷ [])

-- each of these names is below one of the ways that are open before it
unfoldable pub StandBelow : List (List ℕ) → List Name → Type 0
StandBelow ws [] = Unit {0}
StandBelow ws (n ∷ ns) = StandsBelow ws n (λ v. StandBelow v ns)

-- the same for all names that are still to come; no way is open before the root
abbrev pub AreToCome : List (List ℕ) → List Name → Type 0
AreToCome [] [] = Unit {0}
AreToCome [] (n ∷ ns) = (n.path ≡ 47 ∷ []) × StandBelow ([] ∷ []) ns
AreToCome (w ∷ ws) ns = StandBelow (w ∷ ws) ns
