-- The image of a tree has no fault, so a fault leaves no tree.
use Rattle.std.proofs.Common.{◌≡◌, ◌≢◌, ℕ, min, Bool, true, false, List, [], ◌∷◌, ◌++◌, drop, Some, ◌⊎◌, inl, inr, refl}
use Rattle.std.proofs.Common.{sym, ap, subst, ◌∙◌, arith}
use Rattle.std.proofs.lemmas.List.Elements.{recursion_from_All, All-from_recursion}
use Rattle.std.specs.List.{AllByRecursion as Every}
use Rattle.rom_tree.specs.Tree.{Node, depth}
use Rattle.rom_tree.specs.declared.types.Limits.{Limits}
use Rattle.rom_fields.specs.declared.check_error.CheckError.{CheckError}
use Rattle.rom_fields.specs.declared.check_error.CheckError.TheVariants.{OutOfMemory, Fault as FaultAnswer}
use Rattle.rom_fields.specs.declared.fault.Fault.{Fault}
use Rattle.record_forest.specs.declared.reference.Row.{Row}
use Rattle.record_forest.specs.Members.{Pairs}
use Rattle.record_forest.specs.Forest.{Forest, none, at, all_rows, NamesDiffer}
use Rattle.record_forest.proofs.Lists.{every_weaker, pairs_cross, pairs_from}
use Rattle.record_forest.proofs.Exact.{every_here}
use Rattle.romfs_format.specs.Record.{name_of, type_of}
use Rattle.romfs_format.specs.Refers.{references, reference_offset, heads_itself}
use Rattle.romfs_format.specs.Tree.{tree_of, listed_rows, LeadsWell, IsTree, RomfsTree}
use Rattle.rom_tree.specs.Dots.{dot}
use Rattle.romfs_format.specs.Faults.{HasNoFault, IsLeastImageFault, record_fault, twice_fault, depth_fault}
use Rattle.romfs_format.specs.Faults.{extent_fault, name_fault, whole, many, phase}
use Rattle.romfs_format.proofs.Bridge.{offset_some, offset_none, top_offset}
use Rattle.romfs_format.proofs.Depths.{IsWithin}
use Rattle.romfs_format.proofs.Dots.{rows_of_tree, follow_self}
use Rattle.romfs_image.specs.Checked.{IsRefused, IsLeastAnswer}
use Rattle.romfs_image.specs.Phases.{Repeats, IsWellNamed, AreWell}
use Rattle.romfs_image.proofs.Naming.{dot_apart}
use Rattle.romfs_image.proofs.Trees.{root_positive, root_live}
use Rattle.romfs_image.proofs.Least.{faultless}

-- a name that is repeated does not differ
repeated_same : (b : List ℕ) (before : List Row) (x : Row) → Every (λ (y : Row). NamesDiffer (name_of b) y x) before
    → Repeats b before x → ⊥
repeated_same b before x h a =
    let d = All-from_recursion (λ (y : Row). NamesDiffer (name_of b) y x) before h a.0 a.1 a.2 in
    d (ap (λ (y : Row). y.directory) a.3 ∙ a.4.0) (ap (λ (y : Row). name_of b y.offset) a.3 ∙ a.4.1)

-- a row in a list is the root's, which is the first of its own list, or one below the root
listed_cases : (b : List ℕ) (r : ℕ) (first : Row) (below before : List Row) (x : Row) (after : List Row) (v : Bool)
    → heads_itself b r ≡ v → listed_rows b r (first ∷ below) ≡ before ++ x ∷ after
    → ((v ≡ true) × (x ≡ first)) ⊎ ((front : List Row) × (below ≡ front ++ x ∷ after))
unfolding listed_rows
listed_cases b r first below [] x after true e s =
    let s' : first ∷ below ≡ x ∷ after = (rw e at s) in inl (refl, (let z : x ≡ first = cc in z))
listed_cases b r first below (y ∷ before) x after true e s =
    let s' : first ∷ below ≡ y ∷ (before ++ x ∷ after) =
    (rw e at s) in inr (before, (let z : below ≡ before ++ x ∷ after = cc in z))
listed_cases b r first below before x after false e s = inr (before, (rw e at s))

module _ {b : List ℕ} {r : ℕ} {all before : List Row} {x : Row} where
  -- the root's row in its own list is well named
  root_well : x.offset ≡ r → x.directory ≡ x.offset → type_of b r ≡ 1 → name_of b r ≡ dot → (Repeats b before x → ⊥)
      → IsWellNamed b r all before x
  root_well place itself kind named fresh =
      let k : type_of b x.offset ≢ 0 = λ z. (let t = ap (type_of b) place ∙ kind in omega arith) in
      let is : name_of b x.offset ≡ dot = ap (name_of b) place ∙ named in
      record {
        fresh = fresh;
        leads = record {
          here = λ e. follow_self b all 8 x.offset k ∙ ap (λ (v : ℕ). Some v) (sym itself);
          above = λ e. absurd (dot_apart (name_of b x.offset) is e);
          link = λ e t. absurd (k t);
        };
        root = λ e. is;
      }

  -- so is a row that leads well below the root
  below_well : LeadsWell b all x → r ≢ x.offset → (Repeats b before x → ⊥) → IsWellNamed b r all before x
  below_well leads other fresh = record { fresh = fresh; leads = leads; root = λ e. absurd (other (sym e)) }

-- the rows of a tree are well
pub well_of_tree : (b : List ℕ) (r most deepest : ℕ) (f : Forest) → r ≢ 0 → type_of b r ≡ 1 → IsTree b r most deepest f
    → AreWell b r (min deepest 64) (all_rows (references b r) f)
well_of_tree b r most deepest none live kind t =
    absurd (live (sym (top_offset b r) ∙ offset_none (reference_offset b r (references b r).top) t.forest.stands))
well_of_tree b r most deepest (at p own after) live kind t =
    let f : Forest = at p own after in
    let all : List Row = all_rows (references b r) f in
    let first : Row = record { offset = p; reference = (references b r).top; directory = p; parent = p; depth = 0 } in
    let below : List Row = drop 1 all in
    let is : p ≡ r = (offset_some (reference_offset b r (references b r).top) p t.forest.stands.0).1 ∙ top_offset b r in
    let deep : ℕ = depth (tree_of b r f) in
    let within : Every (IsWithin b deep) all = rows_of_tree b r most deepest f live kind t in
    let shallow = t.shallow in
    let single = pairs_from (λ (x : Row) (y : Row). x.offset ≢ y.offset) all t.forest.single in
    let leads = recursion_from_All (LeadsWell b all) below t.leads in
    let differ = pairs_from (NamesDiffer (name_of b)) (listed_rows b r all) t.names in
    record {
      shallow = λ before x after s e.
          let here = every_here (IsWithin b deep) before x after (subst (Every (IsWithin b deep)) s within) in
          let l = here e in
          omega arith;
      apart = t.apart;
      named = λ before x after s.
          let cross = pairs_cross (NamesDiffer (name_of b)) before (x ∷ after)
          (subst (Pairs (NamesDiffer (name_of b))) s differ) in
          let fresh : Repeats b before x → ⊥ =
          repeated_same b before x (every_weaker (λ (y : Row). Every (NamesDiffer (name_of b) y) (x ∷ after))
          (λ (y : Row). NamesDiffer (name_of b) y x) (λ y h. h.0) before cross) in
          elim (listed_cases b r first below before x after (heads_itself b r) refl s) [
            | inl h ↦ root_well (ap (λ (y : Row). y.offset) h.1 ∙ is)
                (ap (λ (y : Row). y.directory) h.1 ∙ sym (ap (λ (y : Row). y.offset) h.1)) kind (t.leaf h.0) fresh
            | inr h ↦
                let lead = every_here (LeadsWell b all) h.0 x after (subst (Every (LeadsWell b all)) h.1 leads) in
                let other = every_here (λ (y : Row). p ≢ y.offset) h.0 x after
                (subst (Every (λ (y : Row). p ≢ y.offset)) h.1 single.0) in
                below_well lead (λ z. other (is ∙ z)) fresh
          ];
    }

pub faultless_of_tree : (bytes : List ℕ) (most deepest : ℕ) (t : Node) → RomfsTree bytes most deepest t
    → HasNoFault bytes most deepest
faultless_of_tree bytes most deepest t x =
    let limits : Limits = record { references = most; depth = deepest } in
    faultless x.super limits (min deepest 64) x.forest (all_rows (references x.b x.r) x.forest)
    (root_positive x.super) refl refl x.whole.forest
    (well_of_tree x.b x.r most deepest x.forest (root_live x.super) x.super.directory x.whole)

-- if there is no fault there is no least one
no_least : {bytes : List ℕ} {most deepest : ℕ} {e : Fault} → HasNoFault bytes most deepest
    → IsLeastImageFault bytes most deepest e → ⊥
no_least {e = e} h (whole k) = h.image e k
no_least h (many n k i) = h.few k
no_least {e = e} h (phase n m k) = elim k [
  | record_fault l ↦ h.sound e l.here
  | twice_fault i l ↦ h.once e l.here
  | depth_fault i j l ↦ h.shallow e l.here
  | extent_fault i j k l ↦ h.apart e l.here
  | name_fault i j k o l ↦ h.named e l.here
]

-- what answers the least fault refuses
pub least_refuses : (bytes : List ℕ) (limits : Limits) (e : CheckError) → IsLeastAnswer bytes limits e
    → IsRefused bytes limits e
least_refuses bytes limits OutOfMemory h = tt
least_refuses bytes limits (FaultAnswer number place) h =
    λ t x. no_least (faultless_of_tree bytes limits.references limits.depth t x) h
