-- The meaning of a walk's variables: places, their stack, and the texts that are still to be read.
-- `IsTrail`: a place and a stack of places are a trail in the graft. `Leads`, `IsFound`: the result
-- of one component, and of a path; `IsFoundWithin`: of a path with a purse. (This project's own.)
use Rattle.std.specs.Prelude.{◌≡◌, ℕ, suc, ◌+◌, ◌*◌, ◌≤◌, ◌<◌, Bool, true, List, [], ◌∷◌, ◌++◌}
use Rattle.std.specs.Prelude.{length, Option, Some, None, Result, Ok, Err, MatchResult}
use Rattle.std.specs.Borrow.{Bor}
use base.Fml.{GName}
use Rattle.rom_tree.specs.Tree.{Node, levels, is_link}
use Rattle.rom_tree.specs.Image.{Image}
use Rattle.path_walk.specs.declared.budget.Purse.{Purse}
use Rattle.path_walk.specs.declared.error.WalkError.{WalkError}
use Rattle.path_walk.specs.declared.error.WithinError.{WithinError}
use Rattle.path_walk.specs.declared.error.WithinError.TheVariants.{Path, TooManyNames}
use Rattle.path_walk.specs.declared.mount.Mount.{Mount}
use Rattle.path_walk.specs.declared.mount.Location.{Location}
use Rattle.path_walk.specs.Components.{components}
use Rattle.path_walk.specs.Resolution.{Trail, Step, fails, goes, follows, root_of, resolution}
use Rattle.path_walk.specs.Graft.{MountedNode, Names, graft}
use Rattle.path_walk.specs.Compared.{names_compared, AreTakenFrom, AreTooManyFor}

-- images, and the reference through which they are reached
pub record Held : Type 0 where
  pub images : List Image
  pub loan : GName

-- a place names a node of the graft
abbrev pub NamesAt : List Image → Location → MountedNode → Type 0
NamesAt ms p s = Names ms p.image p.node.0 s

-- it names one that passes a test
abbrev pub HasNodeAt : List Image → Location → (Node → Type 0) → Type 0
HasNodeAt ms p P = (s : MountedNode) × NamesAt ms p s × P s.node

pub data IsMember (u : Mount) : List Mount → Type 0 where
  first : {us : List Mount} → IsMember u (u ∷ us)
  later : {v : Mount} {us : List Mount} → IsMember u us → IsMember u (v ∷ us)

-- r mounts lead from image 0 to the image of a number
pub data IsLed (us : List Mount) : ℕ → ℕ → Type 0 where
  origin : IsLed us 0 0
  onto : {r : ℕ} (u : Mount) → IsMember u us → IsLed us r u.on → IsLed us (suc r) u.image

-- If n places are the ancestors of a node, there are at most so many of each directory below it:
-- each image on the way adds 64, and the first 65.
pub record IsFitting (us : List Mount) (s : MountedNode) (n : ℕ) : Type 0 where
  pub deep : ℕ
  pub led : IsLed us deep s.image
  pub room : levels s.node + n ≤ 65 + 64 * deep

abbrev pub AreFitting : List Mount → MountedNode → List MountedNode → Type 0
AreFitting us s [] = IsFitting us s 0
AreFitting us s (t ∷ ts) = IsFitting us s (length (t ∷ ts)) × AreFitting us t ts

-- the places name the nodes; the first node is that of the last place
abbrev pub AreAncestors : List Image → List Location → List MountedNode → Type 0
AreAncestors ms ps [] = ps ≡ []
AreAncestors ms ps (s ∷ ss) =
    (front : List Location) × (p : Location) × (ps ≡ front ++ p ∷ []) × NamesAt ms p s
    × AreAncestors ms front ss

-- a place and a stack of places are a trail in the graft
pub record IsTrail (ms : List Image) (us : List Mount) (current : Location)
    (ancestors : List Location)
    (s : Trail MountedNode) : Type 0 where
  pub named : NamesAt ms current s.current
  pub all_named : AreAncestors ms ancestors s.ancestors
  pub fit : AreFitting us s.current s.ancestors
  pub root : root_of s.current s.ancestors ≡ (graft ms us).root

-- the place to which one component leads
abbrev pub Leads : List Image → List Mount → Trail MountedNode → Step MountedNode → Location
    → List Location
    → Result (Option Location) WalkError → Type 0
Leads ms us s t current ancestors (Err e) = t ≡ fails e
Leads ms us s t current ancestors (Ok None) =
    (u : Trail MountedNode) × (t ≡ goes u) × IsTrail ms us current ancestors u
Leads ms us s t current ancestors (Ok (Some p)) =
    (x : MountedNode) × (t ≡ follows x) × NamesAt ms p x × (is_link x.node ≡ true)
    × IsTrail ms us current ancestors s

-- the place to which a path leads
abbrev pub IsFound : List Image → List Mount → List ℕ → Bool → Result Location WalkError → Type 0
IsFound ms us path follow r = MatchResult r
    (λ p. (s : MountedNode) × (resolution (graft ms us) path follow ≡ Ok s) × NamesAt ms p s)
    (λ e. resolution (graft ms us) path follow ≡ Err e)

-- the same of a walk with a purse, and what it leaves in the purse
abbrev pub IsFoundWithin : List Image → List Mount → List ℕ → Bool → Purse → Purse
    → Result Location WithinError → Type 0
IsFoundWithin ms us path follow old new (Ok p) =
    IsFound ms us path follow (Ok p)
    × AreTakenFrom old new (names_compared (graft ms us) path follow)
IsFoundWithin ms us path follow old new (Err (Path e)) =
    IsFound ms us path follow (Err e)
    × AreTakenFrom old new (names_compared (graft ms us) path follow)
IsFoundWithin ms us path follow old new (Err TooManyNames) =
    AreTooManyFor old new (names_compared (graft ms us) path follow)

-- the components of all texts that are still to be read, those of the last text first
unfoldable pub unread_components : List (Bor (List ℕ)) → List (List ℕ)
unread_components [] = []
unread_components (u ∷ us) = unread_components us ++ components u.now

-- the number of their bytes
unfoldable pub unread_bytes : List (Bor (List ℕ)) → ℕ
unread_bytes [] = 0
unread_bytes (u ∷ us) = length u.now + unread_bytes us

-- no text is empty
unfoldable pub NoneEmpty : List (Bor (List ℕ)) → Type 0
NoneEmpty [] = Unit {0}
NoneEmpty (u ∷ us) = (0 < length u.now) × NoneEmpty us
