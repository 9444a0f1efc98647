-- In a tree `.` and `..` are hard links, and no entry's row is deeper than the tree.
use Rattle.std.proofs.Common.{◌≡◌, ◌≢◌, ℕ, zero, suc, ◌+◌, ◌≤◌, Bool, true, false, List, [], ◌∷◌, ◌++◌, drop, Some, ◌⊎◌}
use Rattle.std.proofs.Common.{inl, inr, refl, sym, ap, subst, ◌∙◌, arith, if◌then◌else◌}
use Rattle.std.proofs.lemmas.Bool.{ne_eqb, false≢true, eqb-true}
use Rattle.std.proofs.lemmas.Bool.Decides.{eqb_tells}
use Rattle.std.proofs.lemmas.List.Elements.{recursion_from_All}
use Rattle.std.specs.List.{AllByRecursion as Every}
use Rattle.rom_tree.specs.Tree.{depth, entries_depth}
use Rattle.record_forest.specs.declared.reference.Reference.{Reference}
use Rattle.record_forest.specs.declared.reference.Row.{Row}
use Rattle.record_forest.specs.Members.{Has, Pairs}
use Rattle.record_forest.specs.Forest.{Forest, none, at, Stands, rows, all_rows}
use Rattle.record_forest.proofs.Lists.{every_join, every_left, every_right, every_weaker, every_both, has_every}
use Rattle.record_forest.proofs.Lists.{pairs_pick, pairs_from}
use Rattle.record_forest.proofs.Place.{HasParent, rows_parented}
use Rattle.romfs_format.specs.Record.{name_of, type_of}
use Rattle.romfs_format.specs.Refers.{references, reference_offset, heads_itself}
use Rattle.romfs_format.specs.Tree.{node_of, tree_of, entries_at, follow, below_root, LeadsWell, IsTree}
use Rattle.rom_tree.specs.Dots.{is_dots, dot, dot_dot}
use Rattle.romfs_format.proofs.Bridge.{offset_some, top_offset, root_own, root_after}
use Rattle.romfs_format.proofs.Depths.{IsWithin, IsDotLink, IsBelowRoot, entries_within, rows_within, node_depth}
use Rattle.romfs_format.proofs.Depths.{directory_depth}

-- `.` or `..`
pub dot_cases : (name : List ℕ) → is_dots name ≡ true → (name ≡ dot) ⊎ (name ≡ dot_dot)
dot_cases [] e = absurd (false≢true e)
dot_cases (x ∷ []) e = inl (ap (λ (v : ℕ). v ∷ []) (eqb-true x 46 e))
dot_cases (x ∷ y ∷ []) e = elim (eqb_tells x 46) [
  | inl h ↦ let k = eqb-true y 46 (rw h.0 at e) in inr (let p = h.1 in cc)
  | inr h ↦ absurd (false≢true (rw h.0 at e))
]
dot_cases (x ∷ y ∷ z ∷ more) e = absurd (false≢true e)

-- a record that is no link leads to itself
pub follow_self : (b : List ℕ) (all : List Row) (n p : ℕ) → type_of b p ≢ 0 → follow b all n p ≡ Some p
unfolding follow
follow_self b all zero p e = rw (ne_eqb (type_of b p) 0 e) refl
follow_self b all (suc n) p e = rw (ne_eqb (type_of b p) 0 e) refl

-- each member is one
each_member : (xs : List Row) → Every (λ (x : Row). Has (λ (y : Row). y ≡ x) xs) xs
each_member [] = tt
each_member (x ∷ xs) = (
  inl refl,
  every_weaker (λ (y : Row). Has (λ (z : Row). z ≡ y) xs)
      (λ (y : Row). (x ≡ y) ⊎ Has (λ (z : Row). z ≡ y) xs) (λ y h. inr h) xs (each_member xs),
)

-- if no offset occurs twice, two members at one offset are one
one_member : (P Q : Row → Type 0) (q : ℕ) (all : List Row) → Pairs (λ (x : Row) (y : Row). x.offset ≢ y.offset) all
    → ((y : Row) → P y → y.offset ≡ q) → ((y : Row) → Q y → y.offset ≡ q)
    → Has P all → Has Q all → (y : Row) × P y × Q y
one_member P Q q all single f g h k =
    elim (pairs_pick (λ (x : Row) (y : Row). x.offset ≢ y.offset) P Q all single h k) [
      | inl z ↦ z
      | inr z ↦ absurd (elim z.4 [ inl n ↦ n (f z.0 z.2 ∙ sym (g z.1 z.3)) | inr n ↦ n (g z.1 z.3 ∙ sym (f z.0 z.2)) ])
    ]

-- no record is its own directory
own_directory : (all : List Row) (x : Row) → Pairs (λ (x : Row) (y : Row). x.offset ≢ y.offset) all
    → Has (λ (y : Row). y ≡ x) all → HasParent all x → x.offset ≡ x.directory → ⊥
own_directory all x single here parent e =
    let w = one_member (λ (y : Row). (y.offset ≡ x.directory) × (y.directory ≡ x.parent) × (y.depth + 1 ≡ x.depth))
    (λ (y : Row). y ≡ x) x.directory all single (λ y h. h.0)
    (λ y h. ap (λ (z : Row). z.offset) h ∙ e) parent here in
    let d : w.0.depth ≡ x.depth = ap (λ (z : Row). z.depth) w.2 in
    let k = w.1.2 in
    omega arith

-- nor that of its directory; `first` is the root's row, which is its own directory
own_parent : (first : Row) (below : List Row) (x : Row)
    → Pairs (λ (x : Row) (y : Row). x.offset ≢ y.offset) (first ∷ below) → first.directory ≡ first.offset
    → Every (HasParent (first ∷ below)) below
    → Has (λ (y : Row). y ≡ x) below → first.offset ≢ x.offset → HasParent (first ∷ below) x → x.offset ≡ x.parent → ⊥
own_parent first below x single itself parents here other (inl h) e = other (sym itself ∙ (h.1 ∙ sym e))
own_parent first below x single itself parents here other (inr h) e =
    let y = has_every (HasParent (first ∷ below))
    (λ (y : Row). (y.offset ≡ x.directory) × (y.directory ≡ x.parent) × (y.depth + 1 ≡ x.depth)) below parents h in
    let w = one_member (λ (z : Row). (z.offset ≡ y.0.directory) × (z.directory ≡ y.0.parent)
    × (z.depth + 1 ≡ y.0.depth)) (λ (z : Row). z ≡ x) y.0.directory (first ∷ below) single (λ z k. k.0)
    (λ z k. ap (λ (v : Row). v.offset) k ∙ (e ∙ sym y.2.1)) y.1 (inr here) in
    let d : w.0.depth ≡ x.depth = ap (λ (z : Row). z.depth) w.2 in
    let k = w.1.2 in
    let l = y.2.2 in
    omega arith

module _ (b : List ℕ) (all : List Row) (x : Row) (leads : LeadsWell b all x) (here : x.offset ≡ x.directory → ⊥)
    (above : x.offset ≡ x.parent → ⊥) where
  -- `.` and `..` lead elsewhere than to themselves, so they are links
  dot_link : IsDotLink b x
  dot_link e = elim (eqb_tells (type_of b x.offset) 0) [
    | inl h ↦ h.1
    | inr h ↦
        let stays = follow_self b all 8 x.offset h.1 in
        elim (dot_cases (name_of b x.offset) e) [
          | inl k ↦ let z : Some x.offset ≡ Some x.directory =
              sym stays ∙ leads.here k in absurd (here (let w : x.offset ≡ x.directory = cc in w))
          | inr k ↦ let z : Some x.offset ≡ Some x.parent =
              sym stays ∙ leads.above k in absurd (above (let w : x.offset ≡ x.parent = cc in w))
        ]
  ]

-- what is known of each row below the root of a tree
below_rows : (b : List ℕ) (r : ℕ) (first : Row) (below : List Row) → first.offset ≡ r → first.directory ≡ first.offset
    → Pairs (λ (x : Row) (y : Row). x.offset ≢ y.offset) (first ∷ below)
    → Every (HasParent (first ∷ below)) below → Every (LeadsWell b (first ∷ below)) below
    → Every (IsBelowRoot b r) below
below_rows b r first below is itself single parents leads =
    let all : List Row = first ∷ below in
    let facts = every_both (λ (x : Row). Has (λ (y : Row). y ≡ x) below)
    (λ (x : Row). HasParent all x × (LeadsWell b all x × (first.offset ≢ x.offset))) below (each_member below)
    (every_both (HasParent all) (λ (x : Row). LeadsWell b all x × (first.offset ≢ x.offset)) below parents
    (every_both (LeadsWell b all) (λ (x : Row). first.offset ≢ x.offset) below leads single.0)) in
    every_weaker (λ (x : Row). Has (λ (y : Row). y ≡ x) below
    × (HasParent all x × (LeadsWell b all x × (first.offset ≢ x.offset)))) (IsBelowRoot b r)
    (λ x h. (
      dot_link b all x h.1.1.0 (own_directory all x single (inr h.0) h.1.0)
          (own_parent first below x single itself parents h.0 h.1.1.1 h.1.0),
      λ e. h.1.1.1 (is ∙ e),
    )) below facts

-- no entry's row is deeper than m
pub tree_within : (b : List ℕ) (r m : ℕ) (f : Forest) → Every (IsWithin b m) (drop 1 (all_rows (references b r) f))
    → depth (tree_of b r f) ≤ m
unfolding tree_of
tree_within b r m none h = let k = node_depth b r (entries_at b (below_root b r none)) in omega arith
tree_within b r m (at p own after) h =
    let g = references b r in
    let own_rows = rows g (g.own g.top) p p 1 own in
    let after_rows = rows g (g.after g.top) p p 1 after in
    let left =
    entries_within b r (g.own g.top) p p 0 m own (every_left (IsWithin b m) own_rows after_rows h) (omega arith) in
    let right = entries_within b r (g.after g.top) p p 0 m after (every_right (IsWithin b m) own_rows after_rows h)
    (omega arith) in
    let top = node_depth b r (entries_at b (below_root b r (at p own after))) in
    elim (heads_itself b r) as (λ v. depth (node_of b r (entries_at b (if v then after else own)))
    ≤ entries_depth (entries_at b (if v then after else own))
    → depth (node_of b r (entries_at b (if v then after else own))) ≤ m) [
      | true ↦ λ l. omega arith
      | false ↦ λ l. omega arith
    ] top

stands_none : (b : List ℕ) (r : ℕ) (x : Reference) (f : Forest) → reference_offset b r x ≡ 0
    → Stands (references b r) x f → f ≡ none
stands_none b r x none e s = refl
stands_none b r x (at p own after) e s = absurd ((offset_some (reference_offset b r x) p s.0).0 e)

-- the rows of a root's list, as deep as its entries
list_within : (b : List ℕ) (r p : ℕ) (own after : Forest) (v : Bool) → heads_itself b r ≡ v → r ≢ 0
    → Stands (references b r) ((references b r).own (references b r).top) own
    → Stands (references b r) ((references b r).after (references b r).top) after
    → Every (IsBelowRoot b r) (rows (references b r) ((references b r).own (references b r).top) p p 1 own
    ++ rows (references b r) ((references b r).after (references b r).top) p p 1 after)
    → Every (IsWithin b (entries_depth (entries_at b (if v then after else own))))
    (rows (references b r) ((references b r).own (references b r).top) p p 1 own
    ++ rows (references b r) ((references b r).after (references b r).top) p p 1 after)
list_within b r p own after true e live so sa h =
    let g = references b r in
    let own_rows = rows g (g.own g.top) p p 1 own in
    let after_rows = rows g (g.after g.top) p p 1 after in
    let ends : reference_offset b r (g.own g.top) ≡ 0 =
    ap (λ (o : ℕ). reference_offset b r (record { source = o; which = 0 })) (top_offset b r)
    ∙ root_own b r true e live in
    let nothing : own_rows ≡ [] =
    ap (λ (f : Forest). rows g (g.own g.top) p p 1 f) (stands_none b r (g.own g.top) own ends so) in
    let rest = rows_within b r (g.after g.top) p p 0 after sa (every_right (IsBelowRoot b r) own_rows after_rows h) in
    subst (λ (xs : List Row). Every (IsWithin b (entries_depth (entries_at b after))) (xs ++ after_rows)) (sym nothing)
    (every_weaker (IsWithin b (0 + entries_depth (entries_at b after)))
    (IsWithin b (entries_depth (entries_at b after))) (λ y k z. let w = k z in omega arith) after_rows rest)
list_within b r p own after false e live so sa h =
    let g = references b r in
    let own_rows = rows g (g.own g.top) p p 1 own in
    let after_rows = rows g (g.after g.top) p p 1 after in
    let ends : reference_offset b r (g.after g.top) ≡ 0 =
    ap (λ (o : ℕ). reference_offset b r (record { source = o; which = 1 })) (top_offset b r)
    ∙ root_after b r false e live in
    let nothing : after_rows ≡ [] =
    ap (λ (f : Forest). rows g (g.after g.top) p p 1 f) (stands_none b r (g.after g.top) after ends sa) in
    let rest = rows_within b r (g.own g.top) p p 0 own so (every_left (IsBelowRoot b r) own_rows after_rows h) in
    every_join (IsWithin b (entries_depth (entries_at b own))) own_rows after_rows
    (every_weaker (IsWithin b (0 + entries_depth (entries_at b own))) (IsWithin b (entries_depth (entries_at b own)))
    (λ y k z. let w = k z in omega arith) own_rows rest)
    (subst (Every (IsWithin b (entries_depth (entries_at b own)))) (sym nothing) tt)

-- in a tree no entry's row is deeper than the tree
pub rows_of_tree : (b : List ℕ) (r most deepest : ℕ) (f : Forest) → r ≢ 0 → type_of b r ≡ 1 → IsTree b r most deepest f
    → Every (IsWithin b (depth (tree_of b r f))) (all_rows (references b r) f)
unfolding tree_of
rows_of_tree b r most deepest none live kind t = tt
rows_of_tree b r most deepest (at p own after) live kind t =
    let g = references b r in
    let f : Forest = at p own after in
    let below : List Row = rows g (g.own g.top) p p 1 own ++ rows g (g.after g.top) p p 1 after in
    let first : Row = record { offset = p; reference = g.top; directory = p; parent = p; depth = 0 } in
    let is : p ≡ r = (offset_some (reference_offset b r g.top) p t.forest.stands.0).1 ∙ top_offset b r in
    let single = pairs_from (λ (x : Row) (y : Row). x.offset ≢ y.offset) (all_rows g f) t.forest.single in
    let leads : Every (LeadsWell b (all_rows g f)) below =
    recursion_from_All (LeadsWell b (all_rows g f)) below t.leads in
    let known = below_rows b r first below is refl single (rows_parented g f) leads in
    let within = list_within b r p own after (heads_itself b r) refl live t.forest.stands.1 t.forest.stands.2 known in
    let deep = directory_depth b r (entries_at b (below_root b r f)) kind in (
      (λ e. omega arith),
      every_weaker (IsWithin b (entries_depth (entries_at b (below_root b r f))))
          (IsWithin b (depth (node_of b r (entries_at b (below_root b r f)))))
          (λ y k z. let w = k z in omega arith) below within,
    )
