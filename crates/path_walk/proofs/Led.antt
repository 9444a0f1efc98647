-- The answer of a step for the images as they are, as one for the images as they were.
use Rattle.std.proofs.Common.{◌≡◌, ℕ, ◌<◌, ◌≤◌, Bool, true, List, length, Option, Some, None, Result, Ok, ap, sym}
use Rattle.std.proofs.Common.{subst, arith}
use Rattle.rom_tree.specs.Tree.{is_link}
use Rattle.rom_tree.specs.Image.{contents_of}
use Rattle.path_walk.specs.declared.error.WalkError.{WalkError}
use Rattle.path_walk.specs.declared.mount.Mount.{Mount}
use Rattle.path_walk.specs.declared.mount.Location.{Location}
use Rattle.path_walk.specs.Resolution.{Trail, step}
use Rattle.path_walk.specs.Graft.{MountedNode, graft, bytes_in}
use Rattle.path_walk.specs.Trails.{Held, NamesAt, IsTrail, Leads}
use Rattle.path_walk.proofs.GraftNodes.{link_length}

-- a step from the images of `k`, which are those of `h`
module _ (k h : Held) (e : k ≡ h) (us : List Mount) (current : Location) (ancestors : List Location)
    (s : Trail MountedNode) (p : List ℕ) (stays : Bool) (current' : Location) (ancestors' : List Location) where
  abbrev pub Known : Held → Result (Option Location) WalkError → Type 0
  Known v r = IsTrail v.images us current ancestors s
      → Leads v.images us s (step (graft v.images us) s p stays) current' ancestors' r

  pub led : (r : Result (Option Location) WalkError) → IsTrail h.images us current ancestors s → Known k r
      → Leads h.images us s (step (graft h.images us) s p stays) current' ancestors' r
  led r i f = let known : Held → Type 0 = λ v. Known v r in subst known e f i

  pub led_on : (o : Option Location) → o ≡ None → IsTrail h.images us current ancestors s → Known k (Ok o)
      → Leads h.images us s (step (graft h.images us) s p stays) current' ancestors' (Ok None)
  led_on o q i f = let known : Option Location → Type 0 = λ v. Known k (Ok v) in led (Ok None) i (subst known q f)

  pub led_link : (o : Option Location) (x : Location) → o ≡ Some x → IsTrail h.images us current ancestors s
      → Known k (Ok o) → Leads h.images us s (step (graft h.images us) s p stays) current' ancestors' (Ok (Some x))
  led_link o x q i f = let known : Option Location
      → Type 0 = λ v. Known k (Ok v) in led (Ok (Some x)) i (subst known q f)

-- what a place names in the images as they were, it names in them as they are
pub named_there : {k h : Held} → k ≡ h → (p : Location) {s : MountedNode} → NamesAt h.images p s → NamesAt k.images p s
named_there e p {s} n = let named : Held → Type 0 = λ v. NamesAt v.images p s in subst named (sym e) n

-- the text that was read at a link
pub link_read : (k h : Held) → k ≡ h → (p : Location) (x : MountedNode) (text : List ℕ) → NamesAt h.images p x
    → is_link x.node ≡ true
    → (NamesAt k.images p x → text ≡ contents_of (bytes_in k.images x.image) x.node)
    → (text ≡ contents_of (bytes_in h.images x.image) x.node) × (0 < length text) × (length text ≤ 4095)
link_read k h e p x text n l f =
    let read : Held → Type 0 = λ v. NamesAt v.images p x → text ≡ contents_of (bytes_in v.images x.image) x.node in
    let t : text ≡ contents_of (bytes_in h.images x.image) x.node = subst read e f n in
    let fits : ℕ → Type 0 = λ v. (0 < length (contents_of (bytes_in h.images v) x.node))
    × (length (contents_of (bytes_in h.images v) x.node) ≤ 4095) in
    let m = subst fits n.image (link_length h.images p.image p.node.0 x.node n.node l) in
    (t, omega (arith, ap length t, m), omega (arith, ap length t, m))
