-- A forest of the relation is the one in the bytes, and its tree is made of them.
use Rattle.std.proofs.Common.{◌≡◌, ◌≢◌, ℕ, zero, suc, ◌+◌, ◌^◌, ◌<◌, ◌≤◌, min, true, false, List, ◌++◌, length}
use Rattle.std.proofs.Common.{length-append, None, Some, inl, inr, refl, sym, ap, subst, ◌∙◌, arith, if◌then◌else◌}
use Rattle.std.proofs.lemmas.Bool.{ne_eqb, lt-ltb, le-ltb, false≢true}
use Rattle.std.proofs.lemmas.Bool.Decides.{eqb_tells}
use Rattle.std.proofs.lemmas.List.Elements.{recursion_from_All}
use Rattle.std.specs.List.{AllByRecursion as Every}
use Rattle.rom_tree.specs.Tree.{Node, depth}
use Rattle.record_forest.specs.declared.reference.Reference.{Reference}
use Rattle.record_forest.specs.declared.reference.Row.{Row}
use Rattle.record_forest.specs.References.{Reached}
use Rattle.record_forest.specs.Forest.{Forest, none, at, Stands, rows, all_rows, IsForest, count, stands_in}
use Rattle.record_forest.proofs.Lists.{every_left, every_right, every_weaker, every_both}
use Rattle.record_forest.proofs.Place.{rows_reached, rows_lead, rows_sound}
use Rattle.record_forest.proofs.Same.{same_forest as same_standing}
use Rattle.cramfs_format.specs.declared.order.Order.{Order}
use Rattle.cramfs_format.specs.Inode.{type_of, has_data, end_of, list_start, list_end, ListLies, HasBody}
use Rattle.cramfs_format.specs.Refers.{references, reference_target, root_place, LeadsToSound}
use Rattle.cramfs_format.specs.Tree.{node_of, tree_of, entries_at, below_root, IsTree, CramfsTree}
use Rattle.cramfs_format.specs.Made.{StandsAt, grow, list_at, made, ends_within, IsGood, IsCramfs}
use Rattle.cramfs_format.proofs.Lists.{lt_decides}
use Rattle.cramfs_format.proofs.Lawful.{IsPlaced, at_top, in_chain, reached_placed, target_placed, references_lawful}
use Rattle.cramfs_format.proofs.Lawful.{top_target}
use Rattle.cramfs_format.proofs.Same.{grown}

-- the record to which an entry's reference leads
pub target_none : (o : Order) (b : List ℕ) (x : Reference) → x.source ≢ 0 → reference_target o b x ≡ None
    → list_end o b x.source ≤ x.which
unfolding reference_target
target_none o b x n h = elim (lt_decides x.which (list_end o b x.source)) [
  | inl k ↦ let z : Some x.which ≡ None = (rw (ne_eqb x.source 0 n, k.0) at h) in absurd (cc)
  | inr k ↦ k.1
]

pub target_some : (o : Order) (b : List ℕ) (x : Reference) (p : ℕ) → x.source ≢ 0 → reference_target o b x ≡ Some p
    → (x.which < list_end o b x.source) × (p ≡ x.which)
unfolding reference_target
target_some o b x p n h = elim (lt_decides x.which (list_end o b x.source)) [
  | inl k ↦ let z : Some x.which ≡ Some p = (rw (ne_eqb x.source 0 n, k.0) at h) in (k.1, let y : p ≡ x.which = cc in y)
  | inr k ↦ let z : None ≡ Some p = (rw (ne_eqb x.source 0 n, k.0) at h) in absurd (cc)
]

-- the forest of a directory's references is that of its list
pub standing : (o : Order) (b : List ℕ) (x : Reference) (directory parent deep : ℕ) (f : Forest) → x.source ≢ 0
    → Stands (references o b) x f
    → Every (λ (y : Row). y.offset ≢ 0) (rows (references o b) x directory parent deep f)
    → StandsAt o b (list_end o b x.source) x.which f
standing o b x directory parent deep none n s h = target_none o b x n s
standing o b x directory parent deep (at p own after) n s h =
    let g = references o b in
    let e = target_some o b x p n s.0 in
    let own_rows = rows g (g.own x) p directory (deep + 1) own in
    let after_rows = rows g (g.after x) directory parent deep after in
    let left = every_left (λ (y : Row). y.offset ≢ 0) own_rows after_rows h.1 in
    let right = every_right (λ (y : Row). y.offset ≢ 0) own_rows after_rows h.1 in
    let own_at = standing o b (g.own x) p directory (deep + 1) own (λ z. h.0 (e.1 ∙ z)) s.1 left in
    let after_at = standing o b (g.after x) directory parent deep after n s.2 right in (
      e.0,
      e.1,
      subst (λ (q : ℕ). StandsAt o b (list_end o b q) (list_start o b q) own) (sym e.1) own_at,
      subst (λ (q : ℕ). StandsAt o b (list_end o b x.source) (end_of o b q) after) (sym e.1) after_at,
    )

-- how many records a forest has
pub count_rows : (o : Order) (b : List ℕ) (x : Reference) (directory parent deep : ℕ) (f : Forest)
    → length (rows (references o b) x directory parent deep f) ≡ count f
count_rows o b x directory parent deep none = refl
count_rows o b x directory parent deep (at p own after) =
    let g = references o b in
    let left = count_rows o b (g.own x) p directory (deep + 1) own in
    let right = count_rows o b (g.after x) directory parent deep after in
    let both =
    length-append (rows g (g.own x) p directory (deep + 1) own) (rows g (g.after x) directory parent deep after) in
    omega arith

pub ends_by : (k : ℕ) (o : Order) (b : List ℕ) (e q : ℕ) (f : Forest) → StandsAt o b e q f → count f ≤ k
    → ends_within k o b e q ≡ true
ends_by zero o b e q none s c = rw (le-ltb q e s) refl
ends_by zero o b e q (at p own after) s c = absurd (omega arith)
ends_by (suc k) o b e q none s c = rw (le-ltb q e s) refl
ends_by (suc k) o b e q (at p own after) s c =
    let x = ends_by k o b (list_end o b p) (list_start o b p) own s.2 (omega arith) in
    let y = ends_by k o b e (end_of o b p) after s.3 (omega arith) in
    rw (lt-ltb q e s.0, ← s.1, x, y) refl

-- what holds of the offset of each row holds of each offset in the forest
from_rows : (P : ℕ → Type 0) (o : Order) (b : List ℕ) (x : Reference) (directory parent deep : ℕ) (f : Forest) (q : ℕ)
    → Every (λ (y : Row). P y.offset) (rows (references o b) x directory parent deep f)
    → stands_in f q ≡ true → P q
from_rows P o b x directory parent deep none q h e = absurd (false≢true e)
from_rows P o b x directory parent deep (at p own after) q h e =
    let g = references o b in
    let own_rows = rows g (g.own x) p directory (deep + 1) own in
    let after_rows = rows g (g.after x) directory parent deep after in
    let left = every_left (λ (y : Row). P y.offset) own_rows after_rows h.1 in
    let right = every_right (λ (y : Row). P y.offset) own_rows after_rows h.1 in
    elim (eqb_tells p q) [
      | inl i ↦ subst P i.1 h.0
      | inr i ↦
          let e' : (if stands_in own q then true else stands_in after q) ≡ true = (rw i.0 at e) in
          elim (stands_in own q) as (λ v. stands_in own q ≡ v → (if v then true else stands_in after q) ≡ true → P q) [
            | true ↦ λ t z. from_rows P o b (g.own x) p directory (deep + 1) own q left t
            | false ↦ λ t z. from_rows P o b (g.after x) directory parent deep after q right z
          ] refl e'
    ]

-- The row of a reached reference to a valid record is good, and so is the root's.
pub record IsFine (o : Order) (b : List ℕ) (y : Row) : Type 0 where
  pub reached : Reached (references o b) (LeadsToSound o b) y.reference
  pub leads : reference_target o b y.reference ≡ Some y.offset
  pub sound : LeadsToSound o b y.reference

module _ {o : Order} {b : List ℕ} where
  pub fine_which : (y : Row) → IsFine o b y → y.reference.which ≡ y.offset
  fine_which y f = let z : Some y.reference.which ≡ Some y.offset =
      sym (target_placed y.reference (reached_placed y.reference f.reached)) ∙ f.leads in cc

  by_place : (y : Row) → IsFine o b y → root_place ≢ y.offset → IsPlaced o b y.reference → IsGood o b y.offset
  by_place y f n (at_top i j) = absurd (n (sym j ∙ fine_which y f))
  by_place y f n (in_chain m i j k l inside) =
      let s = f.sound.entry i in
      let w = fine_which y f in
      let fits = s.fits in
      subst (IsGood o b) w (record { header = omega arith; name = omega arith; body = s.body })

  -- an entry
  pub fine_good : (y : Row) → IsFine o b y → root_place ≢ y.offset → IsGood o b y.offset
  fine_good y f n = by_place y f n (reached_placed y.reference f.reached)

  above_by : (y : Row) → IsFine o b y → IsPlaced o b y.reference → y.offset ≢ 0
  above_by y f (at_top i j) z = let w = fine_which y f in omega arith
  above_by y f (in_chain m i j k l inside) z = let w = fine_which y f in omega arith

  pub fine_above : (y : Row) → IsFine o b y → y.offset ≢ 0
  fine_above y f = above_by y f (reached_placed y.reference f.reached)

  pub root_body : type_of o b root_place ≡ 4 → ListLies o b root_place → HasBody o b root_place
  root_body t l =
      let d : has_data (type_of o b root_place) ≡ true → ⊥ =
      λ e. let z : has_data 4 ≡ true = (rw t at e) in false≢true z in
      record {
        kind = rw t refl;
        link_size = λ e. absurd (omega arith);
        list = l;
        table = λ e. absurd (d e);
        plain = λ e. absurd (d e);
        blocks = λ e. absurd (d e);
      }

-- all rows of a forest are fine
pub rows_fine : (o : Order) (b : List ℕ) (most : ℕ) (f : Forest) → IsForest (references o b) (LeadsToSound o b) most f
    → Every (IsFine o b) (all_rows (references o b) f)
rows_fine o b most f h =
    let g = references o b in
    let Reach : Row → Type 0 = λ y. Reached g (LeadsToSound o b) y.reference in
    let Lead : Row → Type 0 = λ y. reference_target o b y.reference ≡ Some y.offset in
    let Firm : Row → Type 0 = λ y. LeadsToSound o b y.reference in
    let lawful = references_lawful o b in
    let all = all_rows g f in
    every_weaker (λ y. Reach y × (Lead y × Firm y)) (IsFine o b)
    (λ y k. record { reached = k.0; leads = k.1.0; sound = k.1.1 }) all
    (every_both Reach (λ y. Lead y × Firm y) all (rows_reached lawful h)
    (every_both Lead Firm all (rows_lead lawful h) (rows_sound lawful h)))

-- the facts that a whole forest has of the records below its root
pub record IsBelow (o : Order) (b : List ℕ) (k : ℕ) (f : Forest) : Type 0 where
  pub stands : StandsAt o b (list_end o b root_place) (list_start o b root_place) (below_root f)
  pub few : count (below_root f) ≤ k
  pub good : (p : ℕ) → stands_in (below_root f) p ≡ true → IsGood o b p
  pub root : ListLies o b root_place

pub below_of : (o : Order) (b : List ℕ) (most : ℕ) (f : Forest) → IsForest (references o b) (LeadsToSound o b) most f
    → IsBelow o b (length (all_rows (references o b) f)) f
below_of o b most none t = let z : None ≡ Some root_place = sym t.stands ∙ top_target o b in absurd (cc)
below_of o b most (at p own after) t =
    let g = references o b in
    let own_rows = rows g (g.own g.top) p p 1 own in
    let after_rows = rows g (g.after g.top) p p 1 after in
    let z : Some p ≡ Some root_place = sym t.stands.0 ∙ top_target o b in
    let same : p ≡ root_place = cc in
    let fine = rows_fine o b most (at p own after) t in
    let apart : Every (λ (y : Row). root_place ≢ y.offset) (own_rows ++ after_rows) =
    recursion_from_All (λ (y : Row). root_place ≢ y.offset) (own_rows ++ after_rows)
    (λ i d l e. t.single 0 (suc i) d (omega arith) (omega arith) (same ∙ e)) in
    let good : Every (λ (y : Row). IsGood o b y.offset) (own_rows ++ after_rows) =
    every_weaker (λ (y : Row). IsFine o b y × (root_place ≢ y.offset)) (λ (y : Row). IsGood o b y.offset)
    (λ y h. fine_good y h.0 h.1) (own_rows ++ after_rows)
    (every_both (IsFine o b) (λ (y : Row). root_place ≢ y.offset) (own_rows ++ after_rows) fine.1 apart) in
    let above : Every (λ (y : Row). y.offset ≢ 0) own_rows =
    every_left (λ (y : Row). y.offset ≢ 0) own_rows after_rows
    (every_weaker (IsFine o b) (λ (y : Row). y.offset ≢ 0) (λ y h. fine_above y h)
    (own_rows ++ after_rows) fine.1) in
    let n = count_rows o b (g.own g.top) p p 1 own in
    let both = length-append own_rows after_rows in
    record {
      stands = standing o b (g.own g.top) p p 1 own (λ e. absurd (omega arith)) t.stands.1 above;
      few = omega arith;
      good = λ q e. from_rows (IsGood o b) o b (g.own g.top) p p 1 own q
          (every_left (λ (y : Row). IsGood o b y.offset) own_rows after_rows good) e;
      root = fine.0.sound.root refl;
    }

module _ (o : Order) (b : List ℕ) (k : ℕ) (f : Forest) (w : IsBelow o b k f) where
  growth : grow k o b (list_end o b root_place) (list_start o b root_place) ≡ below_root f
  growth = grown k o b (list_end o b root_place) (list_start o b root_place) (below_root f) w.stands w.few

  pub same_image : tree_of o b f ≡ made o b k root_place
  unfolding tree_of made list_at
  same_image = ap (λ (g : Forest). node_of o b root_place (entries_at o b g)) (sym growth)

  pub is_cramfs : (deepest : ℕ) → depth (tree_of o b f) ≤ min deepest 64 → 76 ≤ length b → length b < 2 ^ 32
      → type_of o b root_place ≡ 4 → IsCramfs o b k
  is_cramfs deepest shallow long small kind = record {
    small = small;
    long = long;
    directory = kind;
    root = root_body kind w.root;
    within = ends_by k o b (list_end o b root_place) (list_start o b root_place) (below_root f) w.stands w.few;
    few = subst (λ (g : Forest). count g ≤ k) (sym growth) w.few;
    good = λ p e. w.good p (subst (λ (g : Forest). stands_in g p ≡ true) growth e);
    shallow = (let e : depth (tree_of o b f) ≤ 64 = omega arith in subst (λ (x : Node). depth x ≤ 64) same_image e);
  }

-- what a check has to show, from the relation, with the number of records as the count
pub accepted : (o : Order) (b : List ℕ) (most deepest : ℕ) (f : Forest) → IsTree o b most deepest f → 76 ≤ length b
    → length b < 2 ^ 32 → type_of o b root_place ≡ 4
    → IsCramfs o b (length (all_rows (references o b) f))
    × (tree_of o b f ≡ made o b (length (all_rows (references o b) f)) root_place)
accepted o b most deepest f t long small kind =
    let w = below_of o b most f t.forest in
    let k : ℕ = length (all_rows (references o b) f) in
    (is_cramfs o b k f w deepest t.shallow long small kind, same_image o b k f w)

pub same_tree : (o : Order) (bytes : List ℕ) (m n d e : ℕ) (t u : Node) → CramfsTree o bytes m d t
    → CramfsTree o bytes n e u → t ≡ u
same_tree o bytes m n d e t u x y =
    let eb : x.b ≡ y.b = x.super.cut ∙ sym y.super.cut in
    let P : List ℕ → Type 0 = λ b. Stands (references o b) (references o b).top y.forest in
    let again : P x.b = subst P (sym eb) y.whole.forest.stands in
    let ef = same_standing (references o x.b) (references o x.b).top x.forest y.forest x.whole.forest.stands again in
    let same : tree_of o x.b x.forest ≡ tree_of o y.b y.forest = cc in
    x.same ∙ same ∙ sym y.same
