-- The tree of an image that a check was given, and the image that it shows.
use Rattle.std.proofs.Common.{◌≡◌, ◌≢◌, ℕ, ◌^◌, ◌<◌, ◌≤◌, false, List, [], ◌∷◌, length, drop, ◌⊎◌, inl, inr, sym, ap}
use Rattle.std.proofs.Common.{subst, ◌∙◌, arith}
use Rattle.std.proofs.lemmas.List.Elements.{recursion_from_All, All-from_recursion}
use Rattle.std.specs.List.{All, Any, AllByRecursion as Every}
use Rattle.rom_tree.specs.Tree.{depth}
use Rattle.rom_tree.specs.declared.types.Limits.{Limits}
use Rattle.record_forest.specs.declared.reference.Row.{Row}
use Rattle.record_forest.specs.Forest.{Forest, none, at, all_rows, IsForest}
use Rattle.romfs_format.specs.Record.{name_of, IsSound}
use Rattle.romfs_format.specs.Refers.{references, LeadsToSound}
use Rattle.romfs_format.specs.Tree.{tree_of, root_of, IsTree, IsSuperblock}
use Rattle.rom_tree.specs.Dots.{is_dots}
use Rattle.romfs_format.specs.Made.{made, IsRomfs}
use Rattle.romfs_format.proofs.Bridge.{accepted, sound_rows, offset_none, top_offset}
use Rattle.romfs_format.proofs.Depths.{IsWithin}
use Rattle.romfs_format.proofs.Dots.{tree_within, rows_of_tree}
use Rattle.rom_tree.specs.Image.{Image}
use Rattle.romfs_image.specs.Checked.{Shows}

every_drop : (P : Row → Type 0) (xs : List Row) → Every P xs → Every P (drop 1 xs)
every_drop P [] h = tt
every_drop P (x ∷ xs) h = h.1

-- the root is behind the superblock
pub root_above : (b : List ℕ) → 32 ≤ root_of b
unfolding root_of
root_above b = omega arith

module _ {bytes b : List ℕ} {r : ℕ} (super : IsSuperblock bytes b r) where
  pub root_positive : 0 < r
  root_positive = let e = super.root in let h = root_above b in omega arith

  pub root_live : r ≢ 0
  root_live e = let h = root_positive in omega arith

  -- the rows of a forest: each valid, the root's first
  pub rows_sound : (most : ℕ) (f : Forest) (rows : List Row) → rows ≡ all_rows (references b r) f
      → IsForest (references b r) (LeadsToSound b r) most f → All (λ (x : Row). IsSound b r x.offset) rows
  rows_sound most f rows e h = subst (λ (xs : List Row). All (λ (x : Row). IsSound b r x.offset) xs) (sym e)
      (All-from_recursion (λ (x : Row). IsSound b r x.offset) (all_rows (references b r) f) (sound_rows b r most f h))

  pub rows_some : (most : ℕ) (f : Forest) (rows : List Row) → rows ≡ all_rows (references b r) f
      → IsForest (references b r) (LeadsToSound b r) most f → 1 ≤ length rows
  rows_some most none rows e h = absurd (root_live (sym (top_offset b r) ∙ offset_none _ h.stands))
  rows_some most (at p own after) rows e h = let k = ap length e in omega arith

  pub root_sound : (most : ℕ) (f : Forest) → IsForest (references b r) (LeadsToSound b r) most f → IsSound b r r
  root_sound most none h = absurd (root_live (sym (top_offset b r) ∙ offset_none _ h.stands))
  root_sound most (at p own after) h =
      subst (IsSound b r) (top_offset b r)
      (recursion_from_All (λ (x : Row). LeadsToSound b r x.reference)
      (all_rows (references b r) (at p own after)) h.sound).0

  -- the greatest depth of an entry's row is that of the tree
  pub deepest_is : (most deepest n : ℕ) (f : Forest) (rows : List Row) → rows ≡ all_rows (references b r) f
      → IsTree b r most deepest f
      → All (λ (x : Row). is_dots (name_of b x.offset) ≡ false → x.depth ≤ n) rows
      → (n ≡ 0) ⊎ Any (λ (x : Row). (is_dots (name_of b x.offset) ≡ false) × (x.depth ≡ n)) rows
      → n ≡ depth (tree_of b r f)
  deepest_is most deepest n f rows e t bound reached =
      let g = references b r in
      let all : List Row = all_rows g f in
      let low = rows_of_tree b r most deepest f root_live super.directory t in
      let high : depth (tree_of b r f) ≤ n =
      tree_within b r n f (every_drop (IsWithin b n) all
      (recursion_from_All (IsWithin b n) all (subst (λ (xs : List Row). All (IsWithin b n) xs) e bound))) in
      elim reached [
        | inl z ↦ omega arith
        | inr a ↦
            let within = All-from_recursion (IsWithin b (depth (tree_of b r f))) all low in
            let here =
            subst (λ (xs : List Row). All (IsWithin b (depth (tree_of b r f))) xs) (sym e) within a.0 a.1 a.2 in
            let row = subst (IsWithin b (depth (tree_of b r f))) a.3 here in
            let l = row a.4.0 in
            let m = a.4.1 in
            omega arith
      ]

  -- the image's facts, with the number of rows as its count
  pub romfs_by : (most deepest : ℕ) (f : Forest) (rows : List Row) → length b < 2 ^ 32
      → rows ≡ all_rows (references b r) f → IsTree b r most deepest f → IsRomfs b r (length rows)
  romfs_by most deepest f rows small e t =
      subst (IsRomfs b r) (sym (ap length e)) (accepted b r most deepest f root_live t small super.directory).0

  made_by : (most deepest : ℕ) (f : Forest) (rows : List Row) → length b < 2 ^ 32 → rows ≡ all_rows (references b r) f
      → IsTree b r most deepest f → made b r (length rows) r ≡ tree_of b r f
  made_by most deepest f rows small e t =
      ap (λ (k : ℕ). made b r k r) (ap length e) ∙ sym (accepted b r most deepest f root_live t small super.directory).1

  -- an image of these bytes and this tree shows what a check answers
  pub shows_by : (limits : Limits) (f : Forest) (rows : List Row) (n : ℕ) (m : Image) → length b < 2 ^ 32
      → rows ≡ all_rows (references b r) f → IsTree b r limits.references limits.depth f → n ≡ depth (tree_of b r f)
      → m.bytes ≡ bytes → m.tree ≡ made b r (length rows) r
      → Shows bytes limits m (record { references = length rows; depth = n })
  shows_by limits f rows n m small e t deep eb et =
      let is : m.tree ≡ tree_of b r f = et ∙ made_by limits.references limits.depth f rows small e t in
      record {
        bytes = eb;
        tree = record { b = b; r = r; super = super; forest = f; whole = t; same = is };
        count = ap length e;
        deep = deep ∙ ap depth (sym is);
      }
