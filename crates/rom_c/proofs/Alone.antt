-- What holds of the tree that an image has been opened with holds of the tree that its bytes have.
use Rattle.std.proofs.Common.{◌≡◌, ℕ, List, Result, Ok, Err, Bool, true, false, Option, Some, None, refl, sym, subst}
use Rattle.std.proofs.lemmas.Bool.{false≢true}
use Rattle.std.proofs.Math.Logic.{∥∥₁_elim}
use Rattle.std.proofs.Props.{props}
use Rattle.std.specs.Prelude.{◌||◌, is_some, IsSome, IfSome, IsSomeAnd}
use Rattle.rom_tree.specs.Tree.{Node, node_at, is_link, is_directory, is_regular}
use Rattle.rom_tree.specs.declared.types.Limits.{Limits}
use Rattle.path_walk.specs.declared.error.WalkError.{WalkError}
use Rattle.open_files.specs.Calls.{Of, Named}
use Rattle.open_files.specs.Machine.{Open, Outcome}
use Rattle.image_check.specs.Checked.{HasTree}
use Rattle.image_check.specs.declared.any.Parts.{Parts}
use Rattle.rom_c.specs.declared.answers.RomtoolPlace.{RomtoolPlace}
use Rattle.rom_c.specs.declared.file.RomtoolFile.{RomtoolFile}
use Rattle.rom_c.specs.declared.file.RomtoolEntry.{RomtoolEntry}
use Rattle.rom_c.specs.Held.{usual}
use Rattle.rom_c.specs.Reported.{IsText, IsTextAt}
use Rattle.rom_c.specs.Opened.{stands_in}
use Rattle.rom_c.specs.Outcomes.{IsCopied, IsEntryOf, IsListed}
use Rattle.rom_c.specs.Files.{IsOpenAt, IsOpenedBy, MovesTo, file_in, file_at}

pub IsTextAt-prop : (y : Node) (x : RomtoolPlace) (b : Bool) → IsProp (IsTextAt y x b)
IsTextAt-prop y x true = Prim.hlevel props
IsTextAt-prop y x false = Prim.hlevel props

pub IsText-prop : (r : Result Node WalkError) (x : RomtoolPlace) → IsProp (IsText r x)
IsText-prop (Ok y) x = IsTextAt-prop y x (is_link y)
IsText-prop (Err e) x = Prim.hlevel props

some_prop : (v : Option (Open Node)) (P : Open Node → Type 0) → ((o : Open Node) → IsProp (P o))
    → IsProp (IsSomeAnd v P)
some_prop None P h = λ x y. absurd x
some_prop (Some o) P h = h o

at_zero : (v : Option (Open Node)) → IsProp (IsSomeAnd v (λ o. o.position ≡ 0))
at_zero v = some_prop v (λ o. o.position ≡ 0) (λ o. Prim.hlevel props)

pub IsOpenAt-prop : (t x : Node) (f : RomtoolFile) (b : Bool) → IsProp (IsOpenAt t x f b)
IsOpenAt-prop t x f true = let e = at_zero (file_in t f) in Prim.hlevel (props, e)
IsOpenAt-prop t x f false = Prim.hlevel props

pub IsOpenedBy-prop : (t : Node) (r : Result Node WalkError) (f : RomtoolFile) → IsProp (IsOpenedBy t r f)
IsOpenedBy-prop t (Ok x) f = IsOpenAt-prop t x f (is_directory x || is_regular x)
IsOpenedBy-prop t (Err e) f = Prim.hlevel props

pub MovesTo-prop : {R : Type 0} (t : Node) (f : RomtoolFile) (p : ℕ) (r : Outcome R) → IsProp (MovesTo t f p r)
MovesTo-prop t f p (Ok a) = some_prop (file_at t f p) (λ o. o.position ≡ a.1) (λ o. Prim.hlevel props)
MovesTo-prop t f p (Err e) = Prim.hlevel props

pub IsCopied-prop : (r : Outcome (List ℕ)) (error n : ℕ) (new old : List ℕ) → IsProp (IsCopied r error n new old)
IsCopied-prop (Ok a) error n new old = Prim.hlevel props
IsCopied-prop (Err e) error n new old = Prim.hlevel props

IsEntryOf-prop : (v : Option (Of Named)) (r : RomtoolEntry) → IsProp (IsEntryOf v r)
IsEntryOf-prop None r = Prim.hlevel props
IsEntryOf-prop (Some a) r = Prim.hlevel props

pub both : {A B : Type 0} → IsProp A → IsProp B → IsProp (A × B)
both p q = Prim.hlevel (p, q)

pub IsListed-prop : (v : Outcome (Option (Of Named))) (error : ℕ) (r : RomtoolEntry) → IsProp (IsListed v error r)
IsListed-prop (Ok a) error r = both (Prim.hlevel props) (IsEntryOf-prop a.0 r)
IsListed-prop (Err e) error r = Prim.hlevel props

abbrev pub One : Type 0
One = (all : List ℕ) (limits others : Limits) (t u : Node) → HasTree all limits t → HasTree all others u → t ≡ u

pub reported : (P : List ℕ → Node → Type 0) (all held : List ℕ) (t kept shown : Node) → One → IsProp (P all t)
    → ∥ HasTree all usual kept ∥₁ → HasTree all usual t → held ≡ all → shown ≡ kept → P held shown → P all t
reported P all held t kept shown one proper has h e f p =
    ∥∥₁_elim has proper (λ k. subst (P all) (one all usual usual kept t k h)
    (subst (P all) f (subst (λ b. P b shown) e p)))

some_and : (v : Option (Open Node)) (P : Open Node → Type 0) → is_some v ≡ true → ((o : Open Node) → v ≡ Some o → P o)
    → IsSomeAnd v P
some_and None P s k = absurd (false≢true s)
some_and (Some o) P s k = k o refl

-- the same for what is open
pub in_tree : (K : List ℕ → Node → Open Node → Type 0) (all held : List ℕ) (t kept shown : Node) (n : Parts)
    (node position : ℕ)
    → One → ((o : Open Node) → IsProp (K all t o)) → ∥ HasTree all usual kept ∥₁ → HasTree all usual t → held ≡ all
    → shown ≡ kept
    → is_some (stands_in shown all n node position) ≡ true
    → ((o : Open Node) → stands_in shown all n node position ≡ Some o → K held shown o)
    → IsSomeAnd (stands_in t all n node position) (K all t)
in_tree K all held t kept shown n node position one proper has h e f s k =
    let P : List ℕ → Node → Type 0 = λ b u. IsSomeAnd (stands_in u all n node position) (K b u) in
    reported P all held t kept shown one (some_prop (stands_in t all n node position) (K all t) proper) has h e f
    (some_and (stands_in shown all n node position) (K held shown) s k)

-- what holds of a node, if there is one

pub if_prop : (v : Option Node) (P : Node → Type 0) → ((x : Node) → IsProp (P x)) → IsProp (IfSome v P)
if_prop None P h = Prim.hlevel props
if_prop (Some x) P h = h x

pub if_some : (v : Option Node) (P : Node → Type 0) → ((x : Node) → v ≡ Some x → P x) → IfSome v P
if_some None P h = tt
if_some (Some x) P h = h x refl

-- a number that each tree of the bytes has is one of the tree that the image has been opened with
pub node_there : (all : List ℕ) (kept shown : Node) (n : ℕ) → ∥ HasTree all usual kept ∥₁
    → ((t : Node) → HasTree all usual t → IsSome (node_at t n)) → shown ≡ kept → IsSome (node_at shown n)
node_there all kept shown n has h e =
    subst (λ (t : Node). IsSome (node_at t n)) (sym e) (∥∥₁_elim has (Prim.hlevel props) (λ k. h kept k))
