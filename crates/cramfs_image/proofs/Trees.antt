-- The tree of an image that a check was given, and the image that it shows.
use Rattle.std.proofs.Common.{◌≡◌, ◌≢◌, ℕ, suc, ◌^◌, ◌<◌, ◌≤◌, List, [], ◌∷◌, length, drop, None, Some, ◌⊎◌, inl, inr}
use Rattle.std.proofs.Common.{refl, sym, ap, subst, ◌∙◌, arith}
use Rattle.std.proofs.lemmas.List.Elements.{recursion_from_All, All-from_recursion}
use Rattle.std.specs.List.{All, Any, AllByRecursion as Every}
use Rattle.rom_tree.specs.Tree.{depth}
use Rattle.rom_tree.specs.Image.{Image}
use Rattle.rom_tree.specs.declared.types.Limits.{Limits}
use Rattle.record_forest.specs.declared.reference.Row.{Row}
use Rattle.record_forest.specs.Forest.{Forest, none, at, all_rows, IsForest}
use Rattle.record_forest.proofs.Lists.{every_weaker}
use Rattle.cramfs_format.specs.declared.order.Order.{Order}
use Rattle.cramfs_format.specs.Refers.{references, root_place, LeadsToSound}
use Rattle.cramfs_format.specs.Superblock.{IsSuperblock}
use Rattle.cramfs_format.specs.Tree.{tree_of, IsTree}
use Rattle.cramfs_format.specs.Made.{made, IsGood, IsCramfs}
use Rattle.cramfs_format.proofs.Lawful.{top_target}
use Rattle.cramfs_format.proofs.Bridge.{IsFine, rows_fine, fine_good, root_body, accepted}
use Rattle.cramfs_format.proofs.Depths.{IsWithin, tree_within, all_within}
use Rattle.cramfs_image.specs.Checked.{Shows}
use Rattle.cramfs_image.specs.Phases.{IsRecord}

pub every_drop : (P : Row → Type 0) (xs : List Row) → Every P xs → Every P (drop 1 xs)
every_drop P [] h = tt
every_drop P (x ∷ xs) h = h.1

module _ {o : Order} {bytes b : List ℕ} (super : IsSuperblock o bytes b) where
  -- the rows of a forest: the root's, and each other good
  good_below : (most : ℕ) (f : Forest) → IsForest (references o b) (LeadsToSound o b) most f
      → Every (λ (x : Row). IsGood o b x.offset) (drop 1 (all_rows (references o b) f))
  good_below most none h = tt
  good_below most (at p own after) h =
      let z : Some p ≡ Some root_place = sym h.stands.0 ∙ top_target o b in
      let same : p ≡ root_place = cc in
      let all : List Row = all_rows (references o b) (at p own after) in
      let fine = rows_fine o b most (at p own after) h in
      let apart : Every (λ (x : Row). root_place ≢ x.offset) (drop 1 all) =
      recursion_from_All (λ (x : Row). root_place ≢ x.offset) (drop 1 all)
      (λ i d l e. h.single 0 (suc i) d (omega arith) (omega arith) (same ∙ e)) in
      good_by (drop 1 all) fine.1 apart
    where
      good_by : (xs : List Row) → Every (IsFine o b) xs → Every (λ (x : Row). root_place ≢ x.offset) xs
          → Every (λ (x : Row). IsGood o b x.offset) xs
      good_by [] f n = tt
      good_by (x ∷ xs) f n = (fine_good x f.0 n.0, good_by xs f.1 n.1)

  root_record : (most : ℕ) (f : Forest) → 76 ≤ length b → IsForest (references o b) (LeadsToSound o b) most f
      → Every (λ (x : Row). IsGood o b x.offset) (drop 1 (all_rows (references o b) f))
      → Every (λ (x : Row). IsRecord o b x.offset) (all_rows (references o b) f)
  root_record most none long h g = tt
  root_record most (at p own after) long h g =
      let z : Some p ≡ Some root_place = sym h.stands.0 ∙ top_target o b in
      let same : root_place ≡ p = cc in
      let fine = rows_fine o b most (at p own after) h in
      let body = root_body super.root.directory (fine.0.sound.root refl) in (
        subst (IsRecord o b) same (record { header = omega arith; body = body }),
        every_weaker (λ (x : Row). IsGood o b x.offset) (λ (x : Row). IsRecord o b x.offset)
            (λ x k. record { header = k.header; body = k.body })
            (drop 1 (all_rows (references o b) (at p own after))) g,
      )

  pub rows_good : (most : ℕ) (f : Forest) (rows : List Row) → rows ≡ all_rows (references o b) f
      → IsForest (references o b) (LeadsToSound o b) most f → All (λ (x : Row). IsGood o b x.offset) (drop 1 rows)
  rows_good most f rows e h = subst (λ (xs : List Row). All (λ (x : Row). IsGood o b x.offset) (drop 1 xs)) (sym e)
      (All-from_recursion (λ (x : Row). IsGood o b x.offset) (drop 1 (all_rows (references o b) f))
      (good_below most f h))

  pub rows_records : (most : ℕ) (f : Forest) (rows : List Row) → 76 ≤ length b → rows ≡ all_rows (references o b) f
      → IsForest (references o b) (LeadsToSound o b) most f → All (λ (x : Row). IsRecord o b x.offset) rows
  rows_records most f rows long e h =
      subst (λ (xs : List Row). All (λ (x : Row). IsRecord o b x.offset) xs) (sym e)
      (All-from_recursion (λ (x : Row). IsRecord o b x.offset) (all_rows (references o b) f)
      (root_record most f long h (good_below most f h)))

  pub rows_some : (most : ℕ) (f : Forest) (rows : List Row) → rows ≡ all_rows (references o b) f
      → IsForest (references o b) (LeadsToSound o b) most f → 1 ≤ length rows
  rows_some most none rows e h = let z : None ≡ Some root_place = sym h.stands ∙ top_target o b in absurd (cc)
  rows_some most (at p own after) rows e h = let k = ap length e in omega arith

  -- the greatest depth of a row is that of the tree
  pub deepest_is : (most deepest n : ℕ) (f : Forest) (rows : List Row) → rows ≡ all_rows (references o b) f
      → IsTree o b most deepest f → All (λ (x : Row). x.depth ≤ n) rows → (n ≡ 0) ⊎ Any (λ (x : Row). x.depth ≡ n) rows
      → n ≡ depth (tree_of o b f)
  deepest_is most deepest n f rows e t bound reached =
      let all : List Row = all_rows (references o b) f in
      let m : ℕ = depth (tree_of o b f) in
      let low = all_within most m f t.forest (omega arith) in
      let high : m ≤ n = tree_within most n f t.forest
      (every_drop (IsWithin n) all (recursion_from_All (IsWithin n) all
      (subst (λ (xs : List Row). All (IsWithin n) xs) e bound))) in
      elim reached [
        | inl z ↦ omega arith
        | inr a ↦
            let here = subst (λ (xs : List Row). All (IsWithin m) xs) (sym e)
            (All-from_recursion (IsWithin m) all low) a.0 a.1 a.2 in
            let row = subst (IsWithin m) a.3 here in
            let i = a.4 in
            omega arith
      ]

  -- the image's facts, with the number of rows as its count
  pub cramfs_by : (most deepest : ℕ) (f : Forest) (rows : List Row) → 76 ≤ length b → length b < 2 ^ 32
      → rows ≡ all_rows (references o b) f → IsTree o b most deepest f → IsCramfs o b (length rows)
  cramfs_by most deepest f rows long small e t =
      subst (IsCramfs o b) (sym (ap length e)) (accepted o b most deepest f t long small super.root.directory).0

  made_by : (most deepest : ℕ) (f : Forest) (rows : List Row) → 76 ≤ length b → length b < 2 ^ 32
      → rows ≡ all_rows (references o b) f → IsTree o b most deepest f
      → made o b (length rows) root_place ≡ tree_of o b f
  made_by most deepest f rows long small e t =
      ap (λ (k : ℕ). made o b k root_place) (ap length e)
      ∙ sym (accepted o b most deepest f t long small super.root.directory).1

  -- an image of these bytes and this tree shows what a check answers
  pub shows_by : (limits : Limits) (f : Forest) (rows : List Row) (n : ℕ) (m : Image) → 76 ≤ length b
      → length b < 2 ^ 32 → rows ≡ all_rows (references o b) f → IsTree o b limits.references limits.depth f
      → n ≡ depth (tree_of o b f)
      → m.bytes ≡ bytes → m.tree ≡ made o b (length rows) root_place
      → Shows o bytes limits m (record { references = length rows; depth = n })
  shows_by limits f rows n m long small e t deep eb et =
      let is : m.tree ≡ tree_of o b f = et ∙ made_by limits.references limits.depth f rows long small e t in
      record {
        bytes = eb;
        tree = record { b = b; super = super; forest = f; whole = t; same = is };
        count = ap length e;
        deep = deep ∙ ap depth (sym is);
      }
