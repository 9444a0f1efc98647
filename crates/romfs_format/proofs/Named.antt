-- The facts that the rows of a forest, and the references, have of their records' lists.
use Rattle.std.proofs.Common.{◌≡◌, ◌≢◌, ℕ, ◌+◌, ◌<◌, Bool, true, false, List, [], ◌∷◌, ◌++◌, drop, inl, inr, refl, sym}
use Rattle.std.proofs.Common.{ap, subst, ◌∙◌, arith}
use Rattle.std.proofs.lemmas.Bool.{true≢false}
use Rattle.std.proofs.lemmas.List.Elements.{recursion_from_All}
use Rattle.std.specs.List.{AllByRecursion as Every}
use Rattle.record_forest.specs.declared.reference.Reference.{Reference}
use Rattle.record_forest.specs.declared.reference.Row.{Row}
use Rattle.record_forest.specs.Members.{Has, Pairs}
use Rattle.record_forest.specs.References.{Reached, top}
use Rattle.record_forest.specs.Forest.{Forest, none, at, Stands, rows, all_rows, IsForest}
use Rattle.record_forest.specs.Faults.{InList, HasDepth}
use Rattle.record_forest.proofs.Lists.{every_join, every_left, every_right, every_weaker, every_both, every_all}
use Rattle.record_forest.proofs.Lists.{has_weaker, has_both, has_every, pairs_join, pairs_left, pairs_right, pairs_from}
use Rattle.record_forest.proofs.Lists.{pairs_of}
use Rattle.record_forest.proofs.Place.{HasParent, rows_parented, rows_reached, rows_sound, reached_row, listed_row}
use Rattle.record_forest.proofs.Place.{listed_live, listed_reached, listed_not_top, same_leads, one_list}
use Rattle.record_forest.proofs.Back.{clean_of}
use Rattle.record_forest.proofs.Exact.{Differ}
use Rattle.record_forest.proofs.Orders.{Comes as Follow, ordered, first_comes}
use Rattle.romfs_format.specs.Record.{IsSound}
use Rattle.romfs_format.specs.Refers.{references, reference_offset, heads_itself, LeadsToSound}
use Rattle.romfs_format.specs.Tree.{listed_rows}
use Rattle.romfs_format.specs.Faults.{IsReached, IsListed, entry, itself, ComesAfter, IsParent, of_root, of_other}
use Rattle.romfs_format.proofs.Bridge.{offset_some, offset_none, top_offset, root_own, root_after, all_targets}
use Rattle.romfs_format.proofs.Lawful.{references_lawful}
use Rattle.romfs_format.proofs.Sets.{target_at, row_facts}
use Rattle.romfs_format.proofs.Orders.{Comes, follows_comes, Tailed, Followed, followed, follows, tailed_join}
use Rattle.romfs_format.proofs.Orders.{live_offset}

-- the rows that are in lists, by whether the root is the first of its own list
pub listed_by : (b : List ℕ) (r : ℕ) (first : Row) (below : List Row) (P : List Row → Type 0)
    → (heads_itself b r ≡ true → P (first ∷ below)) → (heads_itself b r ≡ false → P below) → (v : Bool)
    → heads_itself b r ≡ v → P (listed_rows b r (first ∷ below))
unfolding listed_rows
listed_by b r first below P t f true e = rw e (t e)
listed_by b r first below P t f false e = rw e (f e)

every_listed : (b : List ℕ) (r : ℕ) (P : Row → Type 0) (xs : List Row) (v : Bool) → heads_itself b r ≡ v → Every P xs
    → Every P (listed_rows b r xs)
unfolding listed_rows
every_listed b r P xs true e k = rw e k
every_listed b r P [] false e k = rw e k
every_listed b r P (x ∷ xs) false e k = rw e k.1

-- a root that is the first of its own list has no other list, and any other root has no record after it
own_empty : (b : List ℕ) (r : ℕ) → r ≢ 0 → heads_itself b r ≡ true → (own : Forest)
    → Stands (references b r) ((references b r).own (references b r).top) own → own ≡ none
own_empty b r live e none s = refl
own_empty b r live e (at o x y) s =
    absurd ((offset_some (reference_offset b r ((references b r).own (references b r).top)) o s.0).0
    (ap (λ (q : ℕ). reference_offset b r (record { source = q; which = 0 })) (top_offset b r)
    ∙ root_own b r true e live))

after_empty : (b : List ℕ) (r : ℕ) → r ≢ 0 → heads_itself b r ≡ false → (after : Forest)
    → Stands (references b r) ((references b r).after (references b r).top) after → after ≡ none
after_empty b r live e none s = refl
after_empty b r live e (at o x y) s =
    absurd ((offset_some (reference_offset b r ((references b r).after (references b r).top)) o s.0).0
    (ap (λ (q : ℕ). reference_offset b r (record { source = q; which = 1 })) (top_offset b r)
    ∙ root_after b r false e live))

-- the root's two lists have no rows that are both there
apart : (b : List ℕ) (r p : ℕ) (R : Row → Row → Type 0) → r ≢ 0 → (own after : Forest)
    → Stands (references b r) ((references b r).own (references b r).top) own
    → Stands (references b r) ((references b r).after (references b r).top) after
    → (v : Bool) → heads_itself b r ≡ v
    → Every (λ (y : Row). Every (R y) (rows (references b r) ((references b r).after (references b r).top) p p 1 after))
    (rows (references b r) ((references b r).own (references b r).top) p p 1 own)
apart b r p R live own after s k true e =
    subst (λ (o : Forest). Every (λ (y : Row). Every (R y)
    (rows (references b r) ((references b r).after (references b r).top) p p 1 after))
    (rows (references b r) ((references b r).own (references b r).top) p p 1 o))
    (sym (own_empty b r live e own s)) tt
apart b r p R live own after s k false e =
    subst (λ (a : Forest). Every (λ (y : Row). Every (R y)
    (rows (references b r) ((references b r).after (references b r).top) p p 1 a))
    (rows (references b r) ((references b r).own (references b r).top) p p 1 own))
    (sym (after_empty b r live e after k))
    (every_all (λ (y : Row). Every (R y) []) (λ y. tt)
    (rows (references b r) ((references b r).own (references b r).top) p p 1 own))

module _ {b : List ℕ} {r most : ℕ} {f : Forest} (above : 0 < r)
    (h : IsForest (references b r) (LeadsToSound b r) most f) where
  root_live : r ≢ 0
  root_live e = omega arith

  root_only : (e : Forest) → Stands (references b r) (references b r).top e → e ≡ none → ⊥
  root_only none s i = root_live (sym (top_offset b r) ∙ offset_none (reference_offset b r (references b r).top) s)
  root_only (at p own after) s i = root_not p own after i
    where
      root_not : (p : ℕ) (own after : Forest) → at p own after ≡ none → ⊥
      root_not p own after i = cc

  targets : Every (λ (y : Row). reference_offset b r y.reference ≡ y.offset) (all_rows (references b r) f)
  targets = all_targets b r f h.stands

  sounds : Every (λ (y : Row). IsSound b r y.offset) (all_rows (references b r) f)
  sounds =
      every_weaker (λ (y : Row). LeadsToSound b r y.reference × (reference_offset b r y.reference ≡ y.offset))
      (λ (y : Row). IsSound b r y.offset) (λ y k. subst (IsSound b r) k.1 k.0) (all_rows (references b r) f)
      (every_both (λ (y : Row). LeadsToSound b r y.reference) (λ (y : Row). reference_offset b r y.reference ≡ y.offset)
      (all_rows (references b r) f) (recursion_from_All (λ (y : Row). LeadsToSound b r y.reference)
      (all_rows (references b r) f) h.sound) targets)

  -- what holds of all rows holds of those of lists
  listed_every : (P : Row → Type 0) → Every P (all_rows (references b r) f)
      → Every P (listed_rows b r (all_rows (references b r) f))
  listed_every P k = by (all_rows (references b r) f) k
    where
      by : (xs : List Row) → Every P xs → Every P (listed_rows b r xs)
      by xs k = every_listed b r P xs (heads_itself b r) refl k

  -- The records of the rows are those that are reached.
  pub rows_are_reached : Every (λ (y : Row). IsReached b r y.offset) (all_rows (references b r) f)
  rows_are_reached =
      every_weaker (λ (y : Row). Reached (references b r) (LeadsToSound b r) y.reference
      × ((reference_offset b r y.reference ≡ y.offset) × IsSound b r y.offset))
      (λ (y : Row). IsReached b r y.offset)
      (λ y k. record { reference = y.reference; reached = k.0; offset = k.1.0; sound = k.1.1 })
      (all_rows (references b r) f)
      (every_both (λ (y : Row). Reached (references b r) (LeadsToSound b r) y.reference)
      (λ (y : Row). (reference_offset b r y.reference ≡ y.offset) × IsSound b r y.offset)
      (all_rows (references b r) f) (rows_reached (references_lawful b r above) h)
      (every_both (λ (y : Row). reference_offset b r y.reference ≡ y.offset) (λ (y : Row). IsSound b r y.offset)
      (all_rows (references b r) f) targets sounds))

  pub reached_has : (p : ℕ) → IsReached b r p → Has (λ (y : Row). y.offset ≡ p) (all_rows (references b r) f)
  reached_has p k =
      has_weaker (λ (y : Row). (reference_offset b r y.reference ≡ y.offset) × (y.reference ≡ k.reference))
      (λ (y : Row). y.offset ≡ p) (λ y z. sym z.0 ∙ ap (reference_offset b r) z.1 ∙ k.offset)
      (all_rows (references b r) f)
      (has_both (λ (y : Row). reference_offset b r y.reference ≡ y.offset) (λ (y : Row). y.reference ≡ k.reference)
      (all_rows (references b r) f) targets (reached_row (references_lawful b r above) h k.reference k.reached))

  -- each row below the root is in its list
  below_listed : Every (λ (y : Row). IsListed b r y.directory y.offset × (y.offset ≢ r))
      (drop 1 (all_rows (references b r) f))
  below_listed =
      every_weaker (λ (y : Row). InList (references b r) (LeadsToSound b r) y.directory y.reference
      × (HasDepth (references b r) (LeadsToSound b r) y.offset y.depth
      × ((reference_offset b r y.reference ≡ y.offset) × (y.offset ≢ r))))
      (λ (y : Row). IsListed b r y.directory y.offset × (y.offset ≢ r)) (λ y k. (entry k.0 k.1.1.0, k.1.1.1))
      (drop 1 (all_rows (references b r) f)) (row_facts above h)

  -- a reference of a list has a row below the root
  entry_below : (d p : ℕ) (x : Reference) → InList (references b r) (LeadsToSound b r) d x → reference_offset b r x ≡ p
      → (below : List Row) → Has (λ (y : Row). (y.reference ≡ x) × (y.directory ≡ d)) below
      → Every (λ (y : Row). reference_offset b r y.reference ≡ y.offset) below
      → Has (λ (y : Row). (y.offset ≡ p) × (y.directory ≡ d)) below
  entry_below d p x u e below k t =
      has_weaker (λ (y : Row). (reference_offset b r y.reference ≡ y.offset) × ((y.reference ≡ x) × (y.directory ≡ d)))
      (λ (y : Row). (y.offset ≡ p) × (y.directory ≡ d))
      (λ y z. (sym z.0 ∙ ap (reference_offset b r) z.1.0 ∙ e, z.1.1)) below
      (has_both (λ (y : Row). reference_offset b r y.reference ≡ y.offset)
      (λ (y : Row). (y.reference ≡ x) × (y.directory ≡ d)) below t k)

  -- The rows of lists say where records stand.
  pub rows_listed : Every (λ (y : Row). IsListed b r y.directory y.offset)
      (listed_rows b r (all_rows (references b r) f))
  rows_listed = by f h.stands below_listed
    where
      by : (e : Forest) → Stands (references b r) (references b r).top e
          → Every (λ (y : Row). IsListed b r y.directory y.offset × (y.offset ≢ r))
          (drop 1 (all_rows (references b r) e))
          → Every (λ (y : Row). IsListed b r y.directory y.offset) (listed_rows b r (all_rows (references b r) e))
      by none s k = absurd (root_only none s refl)
      by (at p own after) s k =
          let g = references b r in
          let is : p ≡ r = (offset_some (reference_offset b r g.top) p s.0).1 ∙ top_offset b r in
          let below : List Row = rows g (g.own g.top) p p 1 own ++ rows g (g.after g.top) p p 1 after in
          let others = every_weaker (λ (y : Row). IsListed b r y.directory y.offset × (y.offset ≢ r))
          (λ (y : Row). IsListed b r y.directory y.offset) (λ y z. z.0) below k in
          listed_by b r (record { offset = p; reference = g.top; directory = p; parent = p; depth = 0 }) below
          (Every (λ (y : Row). IsListed b r y.directory y.offset)) (λ e. (itself e is is, others)) (λ e. others)
          (heads_itself b r) refl

  pub listed_in : (d p : ℕ) → IsListed b r d p
      → Has (λ (y : Row). (y.offset ≡ p) × (y.directory ≡ d)) (listed_rows b r (all_rows (references b r) f))
  listed_in d p l = by f h.stands targets (λ x u e. listed_row (references_lawful b r above) h d x u) l
    where
      by : (e : Forest) → Stands (references b r) (references b r).top e
          → Every (λ (y : Row). reference_offset b r y.reference ≡ y.offset) (all_rows (references b r) e)
          → ((x : Reference) → InList (references b r) (LeadsToSound b r) d x → reference_offset b r x ≡ p
          → Has (λ (y : Row). (y.reference ≡ x) × (y.directory ≡ d)) (drop 1 (all_rows (references b r) e)))
          → IsListed b r d p → Has (λ (y : Row). (y.offset ≡ p) × (y.directory ≡ d))
          (listed_rows b r (all_rows (references b r) e))
      by none s t k l = absurd (root_only none s refl)
      by (at o own after) s t k (entry {x = x} u e) =
          let g = references b r in
          let below : List Row = rows g (g.own g.top) o o 1 own ++ rows g (g.after g.top) o o 1 after in
          let here = entry_below d p x u e below (k x u e) t.1 in
          listed_by b r (record { offset = o; reference = g.top; directory = o; parent = o; depth = 0 }) below
          (Has (λ (y : Row). (y.offset ≡ p) × (y.directory ≡ d))) (λ i. inr here) (λ i. here)
          (heads_itself b r) refl
      by (at o own after) s t k (itself e i j) =
          let g = references b r in
          let is : o ≡ r = (offset_some (reference_offset b r g.top) o s.0).1 ∙ top_offset b r in
          let below : List Row = rows g (g.own g.top) o o 1 own ++ rows g (g.after g.top) o o 1 after in
          listed_by b r (record { offset = o; reference = g.top; directory = o; parent = o; depth = 0 }) below
          (Has (λ (y : Row). (y.offset ≡ p) × (y.directory ≡ d))) (λ z. inl (is ∙ sym j, is ∙ sym i))
          (λ z. absurd (true≢false (sym e ∙ z))) (heads_itself b r) refl

  -- the references of the rows of lists are in the order of their lists
  rows_follow : Pairs (Follow (references b r) (LeadsToSound b r)) (listed_rows b r (all_rows (references b r) f))
  rows_follow = by f h.stands (rows_sound (references_lawful b r above) h)
      (pairs_from Differ (all_rows (references b r) f) h.single)
    where
      by : (e : Forest) → Stands (references b r) (references b r).top e
          → Every (λ (y : Row). LeadsToSound b r y.reference) (all_rows (references b r) e)
          → Pairs Differ (all_rows (references b r) e)
          → Pairs (Follow (references b r) (LeadsToSound b r)) (listed_rows b r (all_rows (references b r) e))
      by none s sound single = absurd (root_only none s refl)
      by (at p own after) s sound single =
          let g = references b r in
          let Sound : Reference → Type 0 = LeadsToSound b r in
          let own_rows = rows g (g.own g.top) p p 1 own in
          let after_rows = rows g (g.after g.top) p p 1 after in
          let me : Row = record { offset = p; reference = g.top; directory = p; parent = p; depth = 0 } in
          let out = every_weaker (λ (y : Row). p ≢ y.offset) (λ (y : Row). y.offset ≢ p) (λ y n i. n (sym i))
          (own_rows ++ after_rows) single.0 in
          let own_ordered = ordered g Sound (g.own g.top) p p 1 own s.1
          (every_left (λ (y : Row). Sound y.reference) own_rows after_rows sound.1)
          (every_left (λ (y : Row). y.offset ≢ p) own_rows after_rows out)
          (pairs_left Differ own_rows after_rows single.1) in
          let after_sound = every_right (λ (y : Row). Sound y.reference) own_rows after_rows sound.1 in
          let after_out = every_right (λ (y : Row). y.offset ≢ p) own_rows after_rows out in
          let after_ordered = ordered g Sound (g.after g.top) p p 1 after s.2 after_sound after_out
          (pairs_right Differ own_rows after_rows single.1) in
          let others = pairs_join (Follow g Sound) own_rows after_rows own_ordered after_ordered
          (apart b r p (Follow g Sound) root_live own after s.1 s.2 (heads_itself b r) refl) in
          listed_by b r me (own_rows ++ after_rows) (Pairs (Follow g Sound))
          (λ e. (
            every_join (Follow g Sound me) own_rows after_rows
                (subst (λ (o : Forest). Every (Follow g Sound me) (rows g (g.own g.top) p p 1 o))
                (sym (own_empty b r root_live e own s.1)) tt)
                (first_comes g Sound me p 1 after s.2 sound.0 after_sound after_out),
            others,
          )) (λ e. others) (heads_itself b r) refl

  -- Of two rows of one list the later one's record comes after the other's.
  pub rows_ordered : Pairs (Comes b r) (listed_rows b r (all_rows (references b r) f))
  rows_ordered =
      let Known : Row → Type 0 =
      λ y. IsListed b r y.directory y.offset × (reference_offset b r y.reference ≡ y.offset) in
      pairs_of Known (Follow (references b r) (LeadsToSound b r)) (Comes b r)
      (λ y z u v k e. subst (λ (q : ℕ). ComesAfter b r y.directory y.offset q) v.1
      (subst (λ (p : ℕ). ComesAfter b r y.directory p (reference_offset b r z.reference)) u.1
      (follows_comes b r y.directory y.reference z.reference above (subst (IsListed b r y.directory) (sym u.1) u.0)
      (k e))))
      (listed_rows b r (all_rows (references b r) f))
      (every_both (λ (y : Row). IsListed b r y.directory y.offset)
      (λ (y : Row). reference_offset b r y.reference ≡ y.offset)
      (listed_rows b r (all_rows (references b r) f)) rows_listed
      (listed_every (λ (y : Row). reference_offset b r y.reference ≡ y.offset) targets)) rows_follow

  -- If a record follows that of a row, its row is later.
  pub rows_followed : Tailed (Followed b r) (listed_rows b r (all_rows (references b r) f))
  rows_followed = by f h.stands
    where
      by : (e : Forest) → Stands (references b r) (references b r).top e
          → Tailed (Followed b r) (listed_rows b r (all_rows (references b r) e))
      by none s = absurd (root_only none s refl)
      by (at p own after) s =
          let g = references b r in
          let own_rows = rows g (g.own g.top) p p 1 own in
          let after_rows = rows g (g.after g.top) p p 1 after in
          let me : Row = record { offset = p; reference = g.top; directory = p; parent = p; depth = 0 } in
          let others = tailed_join b r own_rows after_rows (followed b r (g.own g.top) p p 1 own s.1)
          (followed b r (g.after g.top) p p 1 after s.2) in
          listed_by b r me (own_rows ++ after_rows) (Tailed (Followed b r))
          (λ e. (
            (λ q i l. Rattle.record_forest.proofs.Lists.has_right
                (λ (z : Row). (z.offset ≡ q) × (z.directory ≡ p)) own_rows after_rows
                (follows b r g.top p p p 1 after s.0 s.2 q i l)),
            others,
          )) (λ e. others) (heads_itself b r) refl

  -- Each row has the directory of its directory as its parent,
  pub rows_parent : Every (λ (y : Row). IsParent b r y.directory y.parent)
      (listed_rows b r (all_rows (references b r) f))
  rows_parent = by f h.stands below_listed (rows_parented (references b r) f)
    where
      by : (e : Forest) → Stands (references b r) (references b r).top e
          → Every (λ (y : Row). IsListed b r y.directory y.offset × (y.offset ≢ r))
          (drop 1 (all_rows (references b r) e))
          → Every (HasParent (all_rows (references b r) e)) (drop 1 (all_rows (references b r) e))
          → Every (λ (y : Row). IsParent b r y.directory y.parent) (listed_rows b r (all_rows (references b r) e))
      by none s k parents = absurd (root_only none s refl)
      by (at p own after) s k parents =
          let g = references b r in
          let is : p ≡ r = (offset_some (reference_offset b r g.top) p s.0).1 ∙ top_offset b r in
          let below : List Row = rows g (g.own g.top) p p 1 own ++ rows g (g.after g.top) p p 1 after in
          let me : Row = record { offset = p; reference = g.top; directory = p; parent = p; depth = 0 } in
          let others = every_weaker (HasParent (me ∷ below)) (λ (y : Row). IsParent b r y.directory y.parent)
          (λ y c. elim c [
            | inl z ↦ of_root (sym z.0 ∙ is) (sym z.1 ∙ is)
            | inr t ↦
                let w = has_every (λ (z : Row). IsListed b r z.directory z.offset × (z.offset ≢ r))
                (λ (z : Row). (z.offset ≡ y.directory) × (z.directory ≡ y.parent)
                × (z.depth + 1 ≡ y.depth)) below k t in
                of_other (λ e. w.1.1 (w.2.0 ∙ e))
                (subst (λ (u : ℕ). IsListed b r u y.directory) w.2.1
                (subst (λ (o : ℕ). IsListed b r w.0.directory o) w.2.0 w.1.0))
          ]) below parents in
          listed_by b r me below (Every (λ (y : Row). IsParent b r y.directory y.parent)) (λ e. (of_root is is, others))
          (λ e. others) (heads_itself b r) refl

  -- a record other than the root's is in one list
  one_directory : (d u w : ℕ) → d ≢ r → IsListed b r u d → IsListed b r w d → u ≡ w
  one_directory d u w n (itself e i j) l = absurd (n j)
  one_directory d u w n (entry x e) (itself i j k) = absurd (n k)
  one_directory d u w n (entry {x = x} k e) (entry {x = y} l i) =
      let lawful = references_lawful b r above in
      let clean = clean_of lawful h in
      let live : d ≢ 0 = λ z. live_offset b r x (listed_live k) (e ∙ z) in
      let same = same_leads lawful clean.once x y d (listed_reached k) (listed_reached l) (target_at b r x d live e)
      (target_at b r y d live i) in
      one_list lawful clean.once u w x k (subst (InList (references b r) (LeadsToSound b r) w) (sym same) l)

  -- and no other.
  pub one_parent : (d u w : ℕ) → IsParent b r d u → IsParent b r d w → u ≡ w
  one_parent d u w (of_root e i) (of_root j k) = i ∙ sym k
  one_parent d u w (of_root e i) (of_other n l) = absurd (n e)
  one_parent d u w (of_other n l) (of_root e i) = absurd (n e)
  one_parent d u w (of_other n l) (of_other m k) = one_directory d u w n l k

  -- No two of them are at one place.
  pub listed_single : Pairs (λ (x : Row) (y : Row). x.offset ≢ y.offset) (listed_rows b r (all_rows (references b r) f))
  listed_single =
      by f h.stands (pairs_from (λ (x : Row) (y : Row). x.offset ≢ y.offset) (all_rows (references b r) f) h.single)
    where
      by : (e : Forest) → Stands (references b r) (references b r).top e
          → Pairs (λ (x : Row) (y : Row). x.offset ≢ y.offset) (all_rows (references b r) e)
          → Pairs (λ (x : Row) (y : Row). x.offset ≢ y.offset) (listed_rows b r (all_rows (references b r) e))
      by none s k = absurd (root_only none s refl)
      by (at p own after) s k =
          let g = references b r in
          listed_by b r (record { offset = p; reference = g.top; directory = p; parent = p; depth = 0 })
          (rows g (g.own g.top) p p 1 own ++ rows g (g.after g.top) p p 1 after)
          (Pairs (λ (x : Row) (y : Row). x.offset ≢ y.offset))
          (λ e. k) (λ e. k.1) (heads_itself b r) refl

  -- The root is in a list only if it is the first of its own.
  pub root_heads : (d : ℕ) → IsListed b r d r → heads_itself b r ≡ true
  root_heads d (itself e i j) = e
  root_heads d (entry {x = x} u e) =
      let lawful = references_lawful b r above in
      let clean = clean_of lawful h in
      let same = same_leads lawful clean.once x (references b r).top r (listed_reached u) (top refl)
      (target_at b r x r root_live e) (target_at b r (references b r).top r root_live (top_offset b r)) in
      absurd (listed_not_top lawful u same)
