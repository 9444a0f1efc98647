-- The depth of a tree and the depths of its rows.
use Rattle.std.proofs.Common.{◌≡◌, ◌≢◌, ℕ, ◌+◌, ◌≤◌, List, drop, None, Some, inl, inr, refl, sym, ◌∙◌, arith}
use Rattle.std.proofs.lemmas.Bool.{ne_eqb}
use Rattle.std.proofs.lemmas.Bool.Decides.{eqb_tells}
use Rattle.std.specs.List.{AllByRecursion as Every}
use Rattle.rom_tree.specs.Tree.{depth, body_depth, entries_depth, directory, regular, symlink, block, character, socket}
use Rattle.rom_tree.specs.Tree.{fifo}
use Rattle.record_forest.specs.declared.reference.Reference.{Reference}
use Rattle.record_forest.specs.declared.reference.Row.{Row}
use Rattle.record_forest.specs.Forest.{Forest, none, at, Stands, rows, all_rows, IsForest}
use Rattle.record_forest.proofs.Lists.{every_join, every_left, every_right}
use Rattle.cramfs_format.specs.declared.order.Order.{Order}
use Rattle.cramfs_format.specs.Inode.{type_of, end_of, list_start, list_end}
use Rattle.cramfs_format.specs.Refers.{references, reference_target, root_place, LeadsToSound}
use Rattle.cramfs_format.specs.Tree.{kind_numbers, places_at, node_of, tree_of, entries_at}
use Rattle.cramfs_format.specs.Made.{StandsAt}
use Rattle.cramfs_format.proofs.Lists.{end_after, other_list}
use Rattle.cramfs_format.proofs.Lawful.{top_target}
use Rattle.rom_tree.proofs.ByKind.{by_kind_map, by_kind_directory, by_kind_rest}
use Rattle.cramfs_format.proofs.Bridge.{below_of}

empty_list : (o : Order) (b : List ℕ) (p q : ℕ) (f : Forest) → type_of o b p ≢ 4 → StandsAt o b (list_end o b p) q f
    → entries_depth (entries_at o b f) ≡ 0
empty_list o b p q none n s = refl
empty_list o b p q (at r own after) n s = let z = other_list o b p n in let l = s.0 in absurd (omega arith)

-- an entry's node is as deep as its list
pub node_depth : (o : Order) (b : List ℕ) (p : ℕ) (own : Forest) → StandsAt o b (list_end o b p) (list_start o b p) own
    → depth (node_of o b p (entries_at o b own)) ≡ entries_depth (entries_at o b own)
unfolding node_of
node_depth o b p own s =
    let t = type_of o b p in
    let es = entries_at o b own in
    let ps = places_at o b p in
    let m = by_kind_map body_depth kind_numbers t (directory es) (regular ps)
    (symlink ps) block character socket fifo in
    elim (eqb_tells t 4) [
      | inl h ↦ m ∙ by_kind_directory kind_numbers t (entries_depth es) 0 0 0 0 0 0 h.1
      | inr h ↦ m ∙ by_kind_rest kind_numbers t (entries_depth es) 0 h.1
          ∙ sym (empty_list o b p (list_start o b p) own h.1 s)
    ]

-- a row is no deeper than m
abbrev pub IsWithin : ℕ → Row → Type 0
IsWithin m y = y.depth ≤ m

-- if no row is deeper than m, the entries are not
entries_within : (o : Order) (b : List ℕ) (e q : ℕ) (x : Reference) (d p n m : ℕ) (f : Forest) → StandsAt o b e q f
    → Every (IsWithin m) (rows (references o b) x d p (n + 1) f) → n ≤ m → n + entries_depth (entries_at o b f) ≤ m
entries_within o b e q x d p n m none s h l = omega arith
entries_within o b e q x d p n m (at r own after) s h l =
    let g = references o b in
    let own_rows = rows g (g.own x) r d (n + 1 + 1) own in
    let after_rows = rows g (g.after x) d p (n + 1) after in
    let right = entries_within o b e (end_of o b r) (g.after x) d p n m after s.3
    (every_right (IsWithin m) own_rows after_rows h.1) l in
    let here = h.0 in
    let below = entries_within o b (list_end o b r) (list_start o b r) (g.own x) r d (n + 1) m own s.2
    (every_left (IsWithin m) own_rows after_rows h.1) here in
    let top = node_depth o b r own s.2 in
    omega arith

-- and the other way
rows_within : (o : Order) (b : List ℕ) (e q : ℕ) (x : Reference) (d p n m : ℕ) (f : Forest) → StandsAt o b e q f
    → n + entries_depth (entries_at o b f) ≤ m → Every (IsWithin m) (rows (references o b) x d p (n + 1) f)
rows_within o b e q x d p n m none s l = tt
rows_within o b e q x d p n m (at r own after) s l =
    let g = references o b in
    let own_rows = rows g (g.own x) r d (n + 1 + 1) own in
    let after_rows = rows g (g.after x) d p (n + 1) after in
    let top = node_depth o b r own s.2 in (
      omega arith,
      every_join (IsWithin m) own_rows after_rows
          (rows_within o b (list_end o b r) (list_start o b r) (g.own x) r d (n + 1) m own s.2 (omega arith))
          (rows_within o b e (end_of o b r) (g.after x) d p n m after s.3 (omega arith)),
    )

-- nothing comes after the root
after_target : (o : Order) (b : List ℕ) (p : ℕ)
    → reference_target o b ((references o b).after (references o b).top) ≡ Some p → ⊥
unfolding reference_target
after_target o b p h =
    let a = end_after o b root_place in
    let n : end_of o b root_place ≢ 64 = λ z. omega arith in
    let z : None ≡ Some p = (rw (ne_eqb (end_of o b root_place) 64 n) at h) in
    absurd (cc)

after_root : (o : Order) (b : List ℕ) (f : Forest)
    → Stands (references o b) ((references o b).after (references o b).top) f → f ≡ none
after_root o b none s = refl
after_root o b (at p own after) s = absurd (after_target o b p s.0)

module _ {o : Order} {b : List ℕ} (most m : ℕ) where
  pub tree_within : (f : Forest) → IsForest (references o b) (LeadsToSound o b) most f
      → Every (IsWithin m) (drop 1 (all_rows (references o b) f)) → depth (tree_of o b f) ≤ m
  unfolding tree_of
  tree_within none t h = let z : None ≡ Some root_place = sym t.stands ∙ top_target o b in absurd (cc)
  tree_within (at p own after) t h =
      let g = references o b in
      let w = below_of o b most (at p own after) t in
      let e = node_depth o b root_place own w.stands in
      let l = entries_within o b (list_end o b root_place) (list_start o b root_place)
      (g.own g.top) p p 0 m own w.stands
      (every_left (IsWithin m) (rows g (g.own g.top) p p 1 own) (rows g (g.after g.top) p p 1 after) h)
      (omega arith) in
      omega arith

  pub all_within : (f : Forest) → IsForest (references o b) (LeadsToSound o b) most f → depth (tree_of o b f) ≤ m
      → Every (IsWithin m) (all_rows (references o b) f)
  unfolding tree_of
  all_within none t h = tt
  all_within (at p own after) t h =
      let g = references o b in
      let w = below_of o b most (at p own after) t in
      let e = node_depth o b root_place own w.stands in
      let left = rows_within o b (list_end o b root_place) (list_start o b root_place)
      (g.own g.top) p p 0 m own w.stands (omega arith) in
      let right : Every (IsWithin m) (rows g (g.after g.top) p p 1 after) = rw (after_root o b after t.stands.2) tt in (
        omega arith,
        every_join (IsWithin m) (rows g (g.own g.top) p p 1 own)
            (rows g (g.after g.top) p p 1 after) left right,
      )
