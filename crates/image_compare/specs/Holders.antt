-- The regular file that has a byte of an image. (This project's own.)
use Rattle.std.specs.Prelude.{◌≡◌, ℕ, ◌<◌, true, List, [], ◌∷◌, ◌++◌, length, slice_index}
use Rattle.rom_tree.specs.Tree.{Node, is_regular, places_of}
use Rattle.rom_tree.specs.Names.{Name, names}
use Rattle.rom_tree.specs.Walks.{given_path}
use Rattle.rom_tree.specs.declared.frame.Walk.{Walk}

-- this offset is one of the list
abbrev pub HasPlace : List ℕ → ℕ → Type 0
HasPlace ps place = (k : ℕ) × (k < length ps) × (slice_index ps k ≡ place)

-- a regular file has the byte at this offset
abbrev pub Holds : Node → ℕ → Type 0
Holds x place = (is_regular x ≡ true) × HasPlace (places_of x) place

-- no name is that of such a file
abbrev pub NoneHolds : List Name → ℕ → Type 0
NoneHolds [] place = Unit {0}
NoneHolds (n ∷ ns) place = (Holds n.node place → ⊥) × NoneHolds ns place

-- the walk returned the first name of the tree whose file has the byte
pub record IsHolder (t : Node) (w : Walk) (place : ℕ) : Type 0 where
  pub before : List Name
  pub name : Name
  pub after : List Name
  pub is : names t ≡ before ++ name ∷ after
  pub path : given_path w ≡ name.path
  pub holds : Holds name.node place
  pub first : NoneHolds before place

-- no name of the tree has such a file
abbrev pub HasNoHolder : Node → ℕ → Type 0
HasNoHolder t place = NoneHolds (names t) place
