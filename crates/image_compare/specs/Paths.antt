-- The lines that are due for the names of two images, path by path: `AreLinesOf`. (This project's
-- own.)
use Rattle.std.specs.Prelude.{◌≡◌, ◌≢◌, ℕ, Bool, true, List, [], ◌∷◌, ◌++◌, length, map}
use Rattle.std.specs.Prelude.{slice_get, flat_map, codes, decimal, if◌then◌else◌}
use Rattle.std.specs.Prelude.{Option, Some, None}
use Rattle.std.specs.Cmp.Lexicographic.{slice_cmp}
use Rattle.std.specs.List.{All, Contains, IsDistinct}
use Rattle.std.specs.List.Sorted.{IsStrictlySortedBy}
use Rattle.std.specs.Ordering.{nat_cmp}
use Rattle.std.specs.Str.{bytes_eq}
use Rattle.rom_fields.specs.Texts.{escaped}
use Rattle.rom_tree.specs.Tree.{Node, attributes_of, kind_of, is_regular, places_of}
use Rattle.rom_tree.specs.Image.{stat_of, contents_of}
use Rattle.rom_tree.specs.Names.{Name, names}
use Rattle.image_info.specs.Map.{eight_digits}
use Rattle.image_compare.specs.Diff.{attributes_text}

-- no two names of a tree have one path
abbrev pub HaveOwnPaths : Node → Type 0
HaveOwnPaths t = IsDistinct bytes_eq (map (λ (n : Name). n.path) (names t))

-- the node of the first name with this path
abbrev pub at_path : List Name → List ℕ → Option Node
at_path [] path = None
at_path (n ∷ ns) path = if bytes_eq n.path path then Some n.node else at_path ns path

-- ---- the five lines

-- `- PATH`
abbrev pub minus : List ℕ → List ℕ
minus path = codes "- " ++ (escaped path ++ codes "\n")

-- `+ PATH`
abbrev pub plus : List ℕ → List ℕ
plus path = codes "+ " ++ (escaped path ++ codes "\n")

-- `m PATH OLD NEW`
abbrev pub with_attributes : List ℕ → Node → Node → List ℕ
with_attributes path x y =
    codes "m " ++ (escaped path ++ (codes " " ++ (attributes_text (stat_of x) ++ (codes " "
    ++ (attributes_text (stat_of y) ++ codes "\n")))))

-- `c PATH OLDLEN NEWLEN`
abbrev pub with_lengths : List ℕ → List ℕ → List ℕ → List ℕ
with_lengths path old new =
    codes "c " ++ (escaped path ++ (codes " " ++ (decimal (length old) ++ (codes " "
    ++ (decimal (length new) ++ codes "\n")))))

-- `@ PATH OLD NEW`
abbrev pub with_offsets : List ℕ → ℕ → ℕ → List ℕ
with_offsets path p q =
    codes "@ " ++ (escaped path ++ (codes " 0x" ++ (eight_digits p ++ (codes " 0x"
    ++ (eight_digits q ++ codes "\n")))))

-- ---- when each of them is due

-- a text is empty if something holds, and a line if it does not
abbrev pub IsLineUnless : Type 0 → List ℕ → List ℕ → Type 0
IsLineUnless P line text = (P → text ≡ []) × ((P → ⊥) → text ≡ line)

-- two nodes have the same mode, owner, group and numbers of a device
pub record HaveSameAttributes (x y : Node) : Type 0 where
  pub mode : (attributes_of x).mode ≡ (attributes_of y).mode
  pub uid : (attributes_of x).uid ≡ (attributes_of y).uid
  pub gid : (attributes_of x).gid ≡ (attributes_of y).gid
  pub major : (attributes_of x).major ≡ (attributes_of y).major
  pub minor : (attributes_of x).minor ≡ (attributes_of y).minor

-- the node is a file, and its first byte is at this offset of the image
abbrev pub BeginsAt : Node → ℕ → Type 0
BeginsAt x p = (is_regular x ≡ true) × (slice_get (places_of x) 0 ≡ Some p)

-- offsets count, and the first byte of x is at p, and that of y at another offset q
pub record HaveMoved (places : Bool) (x y : Node) (p q : ℕ) : Type 0 where
  pub count : places ≡ true
  pub old : BeginsAt x p
  pub new : BeginsAt y q
  pub differ : p ≢ q

-- the lines of a path at which the image a has x and the image b has y, both of one kind
pub record AreChanges (places : Bool) (a b path : List ℕ) (x y : Node)
    (text : List ℕ) : Type 0 where
  pub attributes : List ℕ
  pub contents : List ℕ
  pub moved : List ℕ
  pub is : text ≡ attributes ++ (contents ++ moved)
  pub attributes_if : IsLineUnless (HaveSameAttributes x y) (with_attributes path x y) attributes
  pub contents_if : IsLineUnless (contents_of a x ≡ contents_of b y)
      (with_lengths path (contents_of a x) (contents_of b y)) contents
  pub moved_if : (p q : ℕ) → HaveMoved places x y p q → moved ≡ with_offsets path p q
  pub moved_only : ((p q : ℕ) → HaveMoved places x y p q → ⊥) → moved ≡ []

-- the lines of a path by what the image a has there, and by what the image b has there
abbrev pub AreLinesAt : Bool → List ℕ → List ℕ → List ℕ → Option Node → Option Node → List ℕ
    → Type 0
AreLinesAt places a b path None None text = text ≡ []
AreLinesAt places a b path (Some x) None text = text ≡ minus path
AreLinesAt places a b path None (Some y) text = text ≡ plus path
AreLinesAt places a b path (Some x) (Some y) text =
    (kind_of x ≡ kind_of y → AreChanges places a b path x y text)
    × (kind_of x ≢ kind_of y → text ≡ minus path ++ plus path)

-- A text is the lines of two lists of names, of the image a and of the image b: the paths of all
-- names rise, and each path has its lines.
pub record AreLinesOf (places : Bool) (a b : List ℕ) (xs ys : List Name)
    (text : List ℕ) : Type 0 where
  pub paths : List (List ℕ)
  pub rise : IsStrictlySortedBy (slice_cmp nat_cmp) paths
  pub all : All (λ (n : Name). Contains paths n.path) (xs ++ ys)
  pub lines : List ℕ → List ℕ
  pub is : text ≡ flat_map lines paths
  pub each : (path : List ℕ)
      → AreLinesAt places a b path (at_path xs path) (at_path ys path) (lines path)
