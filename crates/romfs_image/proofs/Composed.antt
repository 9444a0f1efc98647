-- The phases over the rows of a forest, put together.
use Rattle.std.proofs.Common.{◌≡◌, ◌≢◌, ℕ, min, Bool, true, false, List, [], ◌∷◌, ◌++◌, drop, get_or, Option, None}
use Rattle.std.proofs.Common.{Some, MatchOption, refl, sym, ap, subst, ◌∙◌, if◌then◌else◌}
use Rattle.std.proofs.lemmas.List.{get_or_default}
use Rattle.std.proofs.lemmas.List.Elements.{recursion_from_All, All-from_recursion, All-tail}
use Rattle.std.specs.List.{All, AllByRecursion as Every}
use Rattle.rom_fields.specs.Extents.{OverlapsAt, IsLeastOf}
use Rattle.rom_fields.specs.declared.fault.Fault.{Fault}
use Rattle.record_forest.specs.declared.reference.Row.{Row}
use Rattle.record_forest.specs.Forest.{Forest, none, at, all_rows, IsForest, NamesDiffer}
use Rattle.record_forest.proofs.Lists.{pairs_to}
use Rattle.record_forest.proofs.Exact.{every_split, pairs_split}
use Rattle.romfs_format.specs.Record.{name_of, IsSound}
use Rattle.romfs_format.specs.Refers.{references, reference_offset, heads_itself, LeadsToSound}
use Rattle.romfs_format.specs.Tree.{extents_of, listed_rows, LeadsWell, IsTree}
use Rattle.rom_tree.specs.Dots.{dot}
use Rattle.romfs_format.proofs.Bridge.{offset_some, offset_none, top_offset}
use Rattle.romfs_format.proofs.Depths.{IsWithin}
use Rattle.romfs_format.proofs.Dots.{tree_within}
use Rattle.record_forest.specs.Sweep.{IsLeastRowFault}
use Rattle.romfs_image.specs.Phases.{IsTooDeep, IsShallow, Repeats, IsNameFault, IsWellNamed, AreWell, IsLaterFault}
use Rattle.romfs_image.specs.Phases.{name}

-- with no entry too deep and no overlap, the names decide
pub well_or_fault : (b : List ℕ) (r most : ℕ) (all : List Row) (o : Option Fault)
    → IsLeastRowFault (IsShallow b most) (IsTooDeep b most) all None → IsLeastOf (OverlapsAt (extents_of b r all)) None
    → IsLeastRowFault (IsWellNamed b r all) (IsNameFault b r all) (listed_rows b r all) o
    → MatchOption o (AreWell b r most all) (IsLaterFault b r most all)
well_or_fault b r most all None d v n =
    record { shallow = d.clean refl; apart = λ p h. v.least p h; named = n.clean refl }
well_or_fault b r most all (Some e) d v n = name d v n

-- the rows that are in lists are rows
pub listed_sound : (b : List ℕ) (r : ℕ) (all : List Row) → All (λ (x : Row). IsSound b r x.offset) all
    → All (λ (x : Row). IsSound b r x.offset) (listed_rows b r all)
unfolding listed_rows
listed_sound b r [] h = elim (heads_itself b r) as (λ v. All (λ (x : Row). IsSound b r x.offset) (if v then [] else []))
    [ true ↦ h | false ↦ h ]
listed_sound b r (x ∷ xs) h = elim (heads_itself b r) as
    (λ v. All (λ (x : Row). IsSound b r x.offset) (if v then x ∷ xs else xs))
    [ true ↦ h | false ↦ All-tail (λ (x : Row). IsSound b r x.offset) x xs h ]

-- a name that is not repeated differs from those before it
fresh_differs : (b : List ℕ) (before : List Row) (x : Row) → (Repeats b before x → ⊥)
    → Every (λ (y : Row). NamesDiffer (name_of b) y x) before
fresh_differs b before x fresh = recursion_from_All (λ (y : Row). NamesDiffer (name_of b) y x) before
    (λ k d l same equal. fresh (
      k,
      get_or before k d,
      l,
      get_or_default before k (get_or before k d) d l,
      (same, equal),
    ))

-- the rows below the root are among those that are in lists
listed_place : (b : List ℕ) (r : ℕ) (first : Row) (below before : List Row) (x : Row) (after : List Row) (v : Bool)
    → heads_itself b r ≡ v → below ≡ before ++ x ∷ after
    → (front : List Row) × (listed_rows b r (first ∷ below) ≡ front ++ x ∷ after)
unfolding listed_rows
listed_place b r first below before x after true e s = (first ∷ before, rw e (ap (λ (v : List Row). first ∷ v) s))
listed_place b r first below before x after false e s = (before, rw e s)

below_leads : (b : List ℕ) (r most : ℕ) (first : Row) (below : List Row) → AreWell b r most (first ∷ below)
    → Every (LeadsWell b (first ∷ below)) below
below_leads b r most first below w = every_split (LeadsWell b (first ∷ below)) [] below (λ before x after s.
    let p = listed_place b r first below before x after (heads_itself b r) refl s in
    (w.named p.0 x after p.1).leads)

root_named : (b : List ℕ) (r most : ℕ) (first : Row) (below : List Row) → AreWell b r most (first ∷ below)
    → first.offset ≡ r → heads_itself b r ≡ true → name_of b r ≡ dot
unfolding listed_rows
root_named b r most first below w e heads =
    subst (λ (p : ℕ). name_of b p ≡ dot) e ((w.named [] first below (rw heads refl)).root e)

-- a forest whose rows are well makes a tree
pub tree_of_well : (b : List ℕ) (r most deepest : ℕ) (f : Forest) → r ≢ 0
    → IsForest (references b r) (LeadsToSound b r) most f → AreWell b r (min deepest 64) (all_rows (references b r) f)
    → IsTree b r most deepest f
tree_of_well b r most deepest none live h w =
    absurd (live (sym (top_offset b r) ∙ offset_none (reference_offset b r (references b r).top) h.stands))
tree_of_well b r most deepest (at p own after) live h w =
    let f : Forest = at p own after in
    let all : List Row = all_rows (references b r) f in
    let first : Row = record { offset = p; reference = (references b r).top; directory = p; parent = p; depth = 0 } in
    let is : p ≡ r = (offset_some (reference_offset b r (references b r).top) p h.stands.0).1 ∙ top_offset b r in
    let below : List Row = drop 1 all in
    record {
      forest = h;
      shallow = tree_within b r (min deepest 64) f
          (every_split (IsWithin b (min deepest 64)) (first ∷ []) below
          (λ before x after s. w.shallow before x after s));
      apart = w.apart;
      names = pairs_to (NamesDiffer (name_of b)) (listed_rows b r all)
          (pairs_split (NamesDiffer (name_of b)) [] (listed_rows b r all) tt
          (λ before x after s p. fresh_differs b before x (w.named before x after s).fresh));
      leads = All-from_recursion (LeadsWell b all) below (below_leads b r (min deepest 64) first below w);
      leaf = root_named b r (min deepest 64) first below w is;
    }
