-- The image of a tree has no fault, so a fault leaves no tree.
use Rattle.std.proofs.Common.{sym, ◌≡◌, ℕ, min, true, List, [], ◌∷◌, ◌++◌, drop, Option, None, Some, inl, inr, refl, ap}
use Rattle.std.proofs.Common.{subst, ◌∙◌, arith}
use Rattle.std.proofs.lemmas.Bool.Decides.{eqb_tells}
use Rattle.std.proofs.lemmas.List.Elements.{recursion_from_All, All-from_recursion}
use Rattle.std.specs.Prelude.{IsSomeAnd}
use Rattle.std.specs.List.{AllByRecursion as Every}
use Rattle.rom_tree.specs.Tree.{Node, depth}
use Rattle.rom_tree.specs.declared.types.Limits.{Limits}
use Rattle.rom_fields.specs.declared.check_error.CheckError.{CheckError}
use Rattle.rom_fields.specs.declared.check_error.CheckError.TheVariants.{OutOfMemory, Fault as FaultAnswer}
use Rattle.rom_fields.specs.declared.fault.Fault.{Fault}
use Rattle.record_forest.specs.declared.reference.Row.{Row}
use Rattle.record_forest.specs.Members.{Pairs}
use Rattle.record_forest.specs.Forest.{Forest, all_rows, NamesDiffer}
use Rattle.record_forest.proofs.Lists.{every_weaker, pairs_cross, pairs_from}
use Rattle.record_forest.proofs.Exact.{every_here}
use Rattle.cramfs_format.specs.declared.order.Order.{Order}
use Rattle.cramfs_format.specs.Inode.{name_of}
use Rattle.cramfs_format.specs.Refers.{references}
use Rattle.cramfs_format.specs.Tree.{precedes, tree_of, NamesRise, IsNoDot, IsTree, CramfsTree}
use Rattle.cramfs_format.specs.Faults.{HasNoFault, IsLeastImageFault, record_fault, twice_fault, depth_fault}
use Rattle.cramfs_format.specs.Faults.{extent_fault, name_fault, whole, many, phase}
use Rattle.cramfs_format.proofs.Depths.{IsWithin, all_within}
use Rattle.cramfs_format.proofs.Orders.{precedes_on, never_self}
use Rattle.cramfs_format.specs.Superblock.{order_of}
use Rattle.cramfs_format.proofs.Begins.{tree_order}
use Rattle.cramfs_image.specs.Checked.{IsRefused, IsLeastAnswer}
use Rattle.cramfs_image.specs.Phases.{Repeats, last_name, IsWellNamed, AreWell}
use Rattle.cramfs_image.proofs.Least.{faultless}
use Rattle.cramfs_image.proofs.Trees.{every_drop}

-- a name that is repeated does not differ
repeated_same : (o : Order) (b : List ℕ) (before : List Row) (x : Row)
    → Every (λ (y : Row). NamesDiffer (name_of o b) y x) before → Repeats o b before x → ⊥
repeated_same o b before x h a =
    let d = All-from_recursion (λ (y : Row). NamesDiffer (name_of o b) y x) before h a.0 a.1 a.2 in
    d (ap (λ (y : Row). y.directory) a.3 ∙ a.4.0) (ap (λ (y : Row). name_of o b y.offset) a.3 ∙ a.4.1)

-- the last name of a list is that of one of its rows
last_none : (o : Order) (b : List ℕ) (d : ℕ) (P : List ℕ → Type 0) (noted : Option (List ℕ)) (xs : List Row)
    → Every (λ (y : Row). y.directory ≡ d → P (name_of o b y.offset) → ⊥) xs → (IsSomeAnd noted P → ⊥)
    → IsSomeAnd (last_name o b d noted xs) P → ⊥
last_none o b d P noted [] h n k = n k
last_none o b d P noted (x ∷ xs) h n k = elim (eqb_tells x.directory d) [
  | inl e ↦ last_none o b d P (Some (name_of o b x.offset)) xs h.1 (h.0 e.1) (rw e.0 at k)
  | inr e ↦ last_none o b d P noted xs h.1 n (rw e.0 at k)
]

-- before a place each member is related to what is there
before_place : (R : Row → Row → Type 0) (xs before : List Row) (x : Row) (after : List Row) → xs ≡ before ++ x ∷ after
    → Pairs R xs → Every (λ (y : Row). R y x) before
before_place R xs before x after e p =
    let cross = pairs_cross R before (x ∷ after) (subst (Pairs R) e p) in
    every_weaker (λ (y : Row). Every (R y) (x ∷ after)) (λ (y : Row). R y x) (λ y h. h.0) before cross

-- the rows of a tree are well named,
named_of_tree : (o : Order) (b : List ℕ) (most deepest : ℕ) (f : Forest) → IsTree o b most deepest f
    → (before : List Row) (x : Row) (after : List Row) → drop 1 (all_rows (references o b) f) ≡ before ++ x ∷ after
    → IsWellNamed o b before x
named_of_tree o b most deepest f t before x after s =
    let below : List Row = drop 1 (all_rows (references o b) f) in
    let differ = before_place (NamesDiffer (name_of o b)) below before x after s
    (pairs_from (NamesDiffer (name_of o b)) below t.names) in
    record {
      fresh = repeated_same o b before x differ;
      other = every_here (IsNoDot o b) before x after
          (subst (Every (IsNoDot o b)) s (recursion_from_All (IsNoDot o b) below t.no_dots));
      sorted = λ h.
          let rise =
          before_place (NamesRise o b) below before x after s (pairs_from (NamesRise o b) below (t.rising h.0)) in
          last_none o b x.directory (λ n. precedes (name_of o b x.offset) n ≡ true) None before
          (every_weaker (λ (y : Row). NamesRise o b y x)
          (λ (y : Row). y.directory ≡ x.directory → precedes (name_of o b x.offset) (name_of o b y.offset) ≡ true
          → ⊥)
          (λ y r d k. never_self (name_of o b y.offset)
          (precedes_on (name_of o b y.offset) (name_of o b x.offset) (name_of o b y.offset) (r d) k)) before rise)
          (λ v. v) h.1;
    }

-- and well.
pub well_of_tree : (o : Order) (b : List ℕ) (most deepest : ℕ) (f : Forest) → IsTree o b most deepest f
    → AreWell o b (min deepest 64) (all_rows (references o b) f)
well_of_tree o b most deepest f t =
    let deep : ℕ = depth (tree_of o b f) in
    let low =
    every_drop (IsWithin deep) (all_rows (references o b) f) (all_within most deep f t.forest (omega arith)) in
    let limit = t.shallow in
    record {
      shallow = λ before x after s n. let here =
          every_here (IsWithin deep) before x after (subst (Every (IsWithin deep)) s low) in omega arith;
      apart = t.apart;
      named = named_of_tree o b most deepest f t;
    }

pub faultless_of_tree : (o : Order) (bytes : List ℕ) (most deepest : ℕ) (t : Node) → CramfsTree o bytes most deepest t
    → HasNoFault o bytes most deepest
faultless_of_tree o bytes most deepest t x =
    let limits : Limits = record { references = most; depth = deepest } in
    faultless x.super limits (min deepest 64) x.forest (all_rows (references o x.b) x.forest) refl refl x.whole.forest
    (well_of_tree o x.b most deepest x.forest x.whole)

-- if there is no fault there is no least one
no_least : {o : Order} {bytes : List ℕ} {most deepest : ℕ} {e : Fault} → HasNoFault o bytes most deepest
    → IsLeastImageFault o bytes most deepest e → ⊥
no_least {e = e} h (whole k) = h.image e k
no_least h (many n k i) = h.few k
no_least {e = e} h (phase n m k) = elim k [
  | record_fault l ↦ h.sound e l.here
  | twice_fault i l ↦ h.once e l.here
  | depth_fault i j l ↦ h.shallow e l.here
  | extent_fault i j k l ↦ h.apart e l.here
  | name_fault i j k q l ↦ h.named e l.here
]

-- what answers the least fault refuses a tree in either byte order
pub least_refuses : (o : Order) (bytes : List ℕ) (limits : Limits) (e : CheckError) → o ≡ order_of bytes
    → IsLeastAnswer o bytes limits e → IsRefused bytes limits e
least_refuses o bytes limits OutOfMemory is h = tt
least_refuses o bytes limits (FaultAnswer number place) is h = λ t x.
    let same = tree_order x.0 bytes limits.references limits.depth t x.1 ∙ sym is in
    no_least (faultless_of_tree o bytes limits.references limits.depth t
    (subst (λ (v : Order). CramfsTree v bytes limits.references limits.depth t) same x.1)) h
