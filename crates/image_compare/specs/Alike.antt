-- When two nodes of two images are alike, and when two lists of names are. (This project's own.)
use Rattle.std.specs.Prelude.{◌≡◌, ℕ, Bool, true, List, [], ◌∷◌, Some}
use Rattle.rom_tree.specs.Listing.{kind_letter}
use Rattle.rom_tree.specs.Tree.{Node, kind_of}
use Rattle.rom_tree.specs.Image.{stat_of, contents_of}
use Rattle.rom_tree.specs.Names.{Name}
use Rattle.image_compare.specs.Diff.{same_attributes, start_of}

-- A node of the image a and a node of the image b have the same kind, the same attributes and the
-- same contents. If offsets count and both are files with bytes, their first bytes are at the same
-- offset.
pub record AreAlikeNodes (places : Bool) (a b : List ℕ) (x y : Node) : Type 0 where
  pub kind : kind_letter (kind_of x) ≡ kind_letter (kind_of y)
  pub attributes : same_attributes (stat_of x) (stat_of y) ≡ true
  pub contents : contents_of a x ≡ contents_of b y
  pub start : places ≡ true → (p q : ℕ) → start_of x ≡ Some p → start_of y ≡ Some q → p ≡ q

-- one by one, the names have the same paths, and nodes that are alike
abbrev pub AreAlike : Bool → List ℕ → List ℕ → List Name → List Name → Type 0
AreAlike places a b [] [] = Unit {0}
AreAlike places a b (x ∷ xs) (y ∷ ys) =
    (x.path ≡ y.path) × AreAlikeNodes places a b x.node y.node × AreAlike places a b xs ys
AreAlike places a b xs ys = ⊥
