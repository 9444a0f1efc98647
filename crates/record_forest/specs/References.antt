-- `References`: the references in an image, defined once by each format. `Reached`: the references
-- that can be reached. They are the superblock's reference and, step by step, those that follow
-- from the ones already reached. `AreLawful`: the facts that a format must show of its references.
-- (This project's own.)
use Rattle.std.specs.Prelude.{◌≡◌, ◌≢◌, ℕ, Bool, true, false, Option, IsSome, ◌⊎◌}
use Rattle.record_forest.specs.declared.reference.Reference.{Reference}

pub record References : Type 0 where
  -- the superblock's reference to the root
  pub top : Reference
  -- the offset of the record that a reference leads to, or None if it leads to none
  pub target : Reference → Option ℕ
  -- the reference to the first record in the own list of the record that x leads to
  pub own : Reference → Reference
  -- the reference to the next record in the list of that record
  pub after : Reference → Reference
  -- whether the reference to the next record is in the record itself (romfs), and not in the
  -- directory (cramfs)
  pub chained : Bool

-- the two references that follow from x: to its own list (true), and to the next record (false)
abbrev pub edge : References → Bool → Reference → Reference
edge g true x = g.own x
edge g false x = g.after x

-- a reference that leads to some record
abbrev pub IsLive : References → Reference → Type 0
IsLive g x = IsSome (g.target x)

-- The reached references: the least set that has the superblock's and, with a reference to a valid
-- record, the two that follow from it, if they lead to some record.
pub data Reached (g : References) (Sound : Reference → Type 0) : Reference → Type 0 where
  top : {x : Reference} → x ≡ g.top → Reached g Sound x
  more : {x y : Reference} → Reached g Sound x → Sound x → (k : Bool) → edge g k x ≡ y → IsLive g y
      → Reached g Sound y

-- The facts that a format has to show of its references, for those that are reached and lead to
-- valid records. No other reference is the superblock's. References to one record share what
-- follows from them; the next record is shared only if its reference is in the record itself.
-- Nothing else is shared.
pub record AreLawful (g : References) (Sound : Reference → Type 0) : Type 0 where
  pub starts : IsLive g g.top
  pub only_top : (x : Reference) (k : Bool) → Reached g Sound x → Sound x → IsLive g (edge g k x)
      → edge g k x ≢ g.top
  pub own_joined : (x y : Reference) → Reached g Sound x → Reached g Sound y → Sound x → Sound y
      → g.target x ≡ g.target y → g.own x ≡ g.own y
  pub after_joined : g.chained ≡ true → (x y : Reference) → Reached g Sound x → Reached g Sound y
      → Sound x → Sound y
      → g.target x ≡ g.target y → g.after x ≡ g.after y
  pub apart : (x y : Reference) (k l : Bool) → Reached g Sound x → Reached g Sound y → Sound x
      → Sound y
      → IsLive g (edge g k x) → edge g k x ≡ edge g l y
      → (k ≡ l) × ((x ≡ y) ⊎ ((g.target x ≡ g.target y) × ((k ≡ true) ⊎ (g.chained ≡ true))))
