-- The phases over the rows of a forest, put together.
use Rattle.std.proofs.Common.{◌≡◌, ◌≢◌, ℕ, min, true, eqb, List, [], ◌∷◌, drop, get_or, Option, None, Some, MatchOption}
use Rattle.std.proofs.Common.{◌⊎◌, inl, inr, refl, sym, subst, ◌∙◌, if◌then◌else◌}
use Rattle.std.proofs.lemmas.Bool.{eq-eqb}
use Rattle.std.proofs.lemmas.Bool.Decides.{eqb_tells}
use Rattle.std.proofs.lemmas.List.{get_or_default}
use Rattle.std.proofs.lemmas.List.Elements.{recursion_from_All, All-from_recursion}
use Rattle.std.specs.Prelude.{IsSomeAnd}
use Rattle.std.specs.List.{AllByRecursion as Every}
use Rattle.rom_fields.specs.Extents.{OverlapsAt, IsLeastOf}
use Rattle.rom_fields.specs.declared.fault.Fault.{Fault}
use Rattle.record_forest.specs.declared.reference.Row.{Row}
use Rattle.record_forest.specs.Members.{Pairs}
use Rattle.record_forest.specs.Forest.{Forest, all_rows, IsForest, NamesDiffer}
use Rattle.record_forest.proofs.Lists.{pairs_to, every_weaker, every_both}
use Rattle.record_forest.proofs.Exact.{every_split, pairs_split}
use Rattle.record_forest.proofs.Decided.{same_or_not}
use Rattle.cramfs_format.specs.declared.order.Order.{Order}
use Rattle.cramfs_format.specs.Inode.{name_of}
use Rattle.cramfs_format.specs.Refers.{references, LeadsToSound}
use Rattle.cramfs_format.specs.Tree.{precedes, is_sorted, extents_of, NamesRise, IsNoDot, IsTree}
use Rattle.cramfs_format.proofs.Depths.{IsWithin, tree_within}
use Rattle.cramfs_format.proofs.Orders.{precedes_on, one_first}
use Rattle.record_forest.specs.Sweep.{IsLeastRowFault}
use Rattle.cramfs_image.specs.Phases.{IsTooDeep, IsShallow, Repeats, last_name, IsNameFault, IsWellNamed, AreWell}
use Rattle.cramfs_image.specs.Phases.{IsLaterFault, of_name}

-- with no entry too deep and no overlap, the names decide
pub well_or_fault : (o : Order) (b : List ℕ) (most : ℕ) (all : List Row) (v : Option Fault)
    → IsLeastRowFault (IsShallow o b most) (IsTooDeep o b most) (drop 1 all) None
    → IsLeastOf (OverlapsAt (extents_of o b all)) None
    → IsLeastRowFault (IsWellNamed o b) (IsNameFault o b) (drop 1 all) v
    → MatchOption v (AreWell o b most all) (IsLaterFault o b most all)
well_or_fault o b most all None d v n =
    record { shallow = d.clean refl; apart = λ p h. v.least p h; named = n.clean refl }
well_or_fault o b most all (Some e) d v n = of_name d v n

-- a name that is not repeated differs from those before it
fresh_differs : (o : Order) (b : List ℕ) (before : List Row) (x : Row) → (Repeats o b before x → ⊥)
    → Every (λ (y : Row). NamesDiffer (name_of o b) y x) before
fresh_differs o b before x fresh = recursion_from_All (λ (y : Row). NamesDiffer (name_of o b) y x) before
    (λ k d l same equal. fresh (
      k,
      get_or before k d,
      l,
      get_or_default before k (get_or before k d) d l,
      (same, equal),
    ))

-- the name is n, or before it
abbrev pub UpTo : List ℕ → List ℕ → Type 0
UpTo name n = (name ≡ n) ⊎ (precedes name n ≡ true)

-- what is noted stays at or before the last name of a list that rises
noted_up : (o : Order) (b : List ℕ) (d : ℕ) (name k : List ℕ) (xs : List Row) → UpTo name k
    → Every (λ (y : Row). y.directory ≡ d → precedes name (name_of o b y.offset) ≡ true) xs
    → IsSomeAnd (last_name o b d (Some k) xs) (UpTo name)
noted_up o b d name k [] u h = u
noted_up o b d name k (x ∷ xs) u h = elim (eqb_tells x.directory d) [
  | inl e ↦ rw e.0 (noted_up o b d name (name_of o b x.offset) xs (inr (h.0 e.1)) h.1)
  | inr e ↦ rw e.0 (noted_up o b d name k xs u h.1)
]

all_up : (o : Order) (b : List ℕ) (d : ℕ) (noted : Option (List ℕ)) (xs : List Row) → Pairs (NamesRise o b) xs
    → Every (λ (y : Row). y.directory ≡ d → IsSomeAnd (last_name o b d noted xs) (UpTo (name_of o b y.offset))) xs
all_up o b d noted [] p = tt
all_up o b d noted (x ∷ xs) p = (
  (λ e. rw (eq-eqb x.directory d e) (noted_up o b d (name_of o b x.offset) (name_of o b x.offset) xs (inl refl)
      (every_weaker (NamesRise o b x) (λ (y : Row). y.directory ≡ d
      → precedes (name_of o b x.offset) (name_of o b y.offset) ≡ true) (λ y r i. r (e ∙ sym i)) xs p.0))),
  all_up o b d (if eqb x.directory d then Some (name_of o b x.offset) else noted) xs p.1,
)

-- a name that is neither repeated nor before the last one is after all
after_all : (name other : List ℕ) (last : Option (List ℕ)) → IsSomeAnd last (UpTo other)
    → (IsSomeAnd last (λ n. precedes name n ≡ true) → ⊥) → other ≢ name → precedes other name ≡ true
after_all name other None u n d = absurd u
after_all name other (Some k) (inl e) n d =
    elim (one_first other name d) [
      | inl h ↦ h
      | inr h ↦ absurd
          (n (subst (λ (v : List ℕ). precedes name v ≡ true) e h))
    ]
after_all name other (Some k) (inr l) n d = elim (same_or_not name k) [
  | inl e ↦ subst (λ (v : List ℕ). precedes other v ≡ true) (sym e) l
  | inr m ↦ elim (one_first name k m) [ inl h ↦ absurd (n h) | inr h ↦ precedes_on other k name l h ]
]

rises_next : (o : Order) (b : List ℕ) (before : List Row) (x : Row) → is_sorted o b ≡ true → IsWellNamed o b before x
    → Pairs (NamesRise o b) before → Every (λ (y : Row). NamesRise o b y x) before
rises_next o b before x s w p =
    every_weaker (λ (y : Row). (y.directory ≡ x.directory
    → IsSomeAnd (last_name o b x.directory None before) (UpTo (name_of o b y.offset)))
    × NamesDiffer (name_of o b) y x) (λ (y : Row). NamesRise o b y x)
    (λ y h e. after_all (name_of o b x.offset) (name_of o b y.offset) (last_name o b x.directory None before) (h.0 e)
    (λ k. w.sorted (s, k)) (h.1 e)) before
    (every_both (λ (y : Row). y.directory ≡ x.directory
    → IsSomeAnd (last_name o b x.directory None before) (UpTo (name_of o b y.offset)))
    (λ (y : Row). NamesDiffer (name_of o b) y x) before (all_up o b x.directory None before p)
    (fresh_differs o b before x w.fresh))

-- a forest whose rows are well makes a tree
pub tree_of_well : (o : Order) (b : List ℕ) (most deepest : ℕ) (f : Forest)
    → IsForest (references o b) (LeadsToSound o b) most f → AreWell o b (min deepest 64) (all_rows (references o b) f)
    → IsTree o b most deepest f
tree_of_well o b most deepest f h w =
    let m : ℕ = min deepest 64 in
    let below : List Row = drop 1 (all_rows (references o b) f) in
    record {
      forest = h;
      shallow = tree_within most m f h (every_split (IsWithin m) [] below
          (λ before x after s. w.shallow before x after s (w.named before x after s).other));
      apart = w.apart;
      names = pairs_to (NamesDiffer (name_of o b)) below
          (pairs_split (NamesDiffer (name_of o b)) [] below tt
          (λ before x after s p. fresh_differs o b before x (w.named before x after s).fresh));
      no_dots = All-from_recursion (IsNoDot o b) below
          (every_split (IsNoDot o b) [] below (λ before x after s. (w.named before x after s).other));
      rising = λ sorted. pairs_to (NamesRise o b) below
          (pairs_split (NamesRise o b) [] below tt
          (λ before x after s p. rises_next o b before x sorted (w.named before x after s) p));
    }
