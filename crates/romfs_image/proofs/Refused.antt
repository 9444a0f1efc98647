-- The traversal of an image that was checked finds the records of the check, and is refused only by memory.
use Rattle.std.proofs.Common.{◌≡◌, ℕ, ◌<◌, ◌≤◌, List, length, Result, Ok, Err, IfOk, refl, sym, ap, subst, ◌∙◌, arith}
use Rattle.rom_tree.specs.Image.{Image}
use Rattle.rom_tree.specs.declared.types.Limits.{Limits}
use Rattle.rom_tree.specs.declared.types.Report.{Report}
use Rattle.record_forest.specs.declared.reference.Row.{Row}
use Rattle.record_forest.specs.declared.traversal.TraversalError.{TraversalError}
use Rattle.record_forest.specs.declared.traversal.TraversalError.TheVariants.{OutOfMemory, TooMany, Record, Twice}
use Rattle.record_forest.specs.Traversal.{IsLeastRefusal}
use Rattle.record_forest.specs.Forest.{Forest, all_rows, IsForest, Stands}
use Rattle.record_forest.proofs.Back.{clean_of}
use Rattle.record_forest.proofs.Same.{same_forest}
use Rattle.romfs_format.specs.Refers.{references, LeadsToSound, LeadsToFault}
use Rattle.romfs_format.specs.Tree.{root_of, extents_of, IsSuperblock, IsTree}
use Rattle.romfs_format.proofs.Lawful.{references_lawful}
use Rattle.romfs_image.specs.Checked.{Shows}
use Rattle.romfs_image.proofs.Least.{no_reached_fault}

-- if the records are those of a forest, only memory is refused
pub only_memory : {b : List ℕ} {r most : ℕ} {f : Forest} → 0 < r
    → IsForest (references b r) (LeadsToSound b r) most f → (e : TraversalError)
    → IsLeastRefusal (references b r) (LeadsToSound b r) (LeadsToFault b r) most e → e ≡ OutOfMemory
only_memory above h OutOfMemory k = refl
only_memory {b} {r} above h TooMany k = absurd ((clean_of (references_lawful b r above) h).few k)
only_memory above h (Record e) k = absurd (no_reached_fault above h e k.1.here)
only_memory {b} {r} above h (Twice q) k = absurd ((clean_of (references_lawful b r above) h).once q k.2.here)

-- bytes have one superblock
module _ {all b c : List ℕ} {r q : ℕ} (one : IsSuperblock all b r) (other : IsSuperblock all c q) where
  moved : (P : List ℕ → ℕ → Type 0) → P b r → P c q
  moved P h =
      let e : b ≡ c = one.cut ∙ sym other.cut in
      let s : r ≡ q = one.root ∙ ap root_of e ∙ sym other.root in
      subst (λ (v : ℕ). P c v) s (subst (λ (v : List ℕ). P v r) e h)

  -- and one tree, whose extents are those of these rows
  pub same_extents : (rows : List Row) (most deepest n : ℕ) (e f : Forest) → rows ≡ all_rows (references b r) e
      → IsForest (references b r) (LeadsToSound b r) n e → IsTree c q most deepest f
      → extents_of b r rows ≡ extents_of c q (all_rows (references c q) f)
  same_extents rows most deepest n e f is h t =
      let stands : Stands (references c q) (references c q).top e =
      moved (λ v p. Stands (references v p) (references v p).top e) h.stands in
      let same = same_forest (references c q) (references c q).top e f stands t.forest.stands in
      ap (extents_of b r) is
      ∙ moved (λ v p. extents_of b r (all_rows (references b r) e) ≡ extents_of v p (all_rows (references v p) e)) refl
      ∙ ap (λ (g : Forest). extents_of c q (all_rows (references c q) g)) same

-- the records of an image that a check returned are those of a forest, in number no more than it reports
pub forest_again : {all c : List ℕ} {q : ℕ} {limits : Limits} {m : Image} {report : Report} (n : ℕ)
    → Shows all limits m report → IsSuperblock all c q → n ≡ report.references
    → (f : Forest) × IsForest (references c q) (LeadsToSound c q) n f
forest_again n s other e =
    let t = s.tree in
    let f = t.forest in
    let few : length (all_rows (references t.b t.r) f) ≤ n = omega (arith, e, s.count) in (
      f,
      moved t.super other (λ v p. IsForest (references v p) (LeadsToSound v p) n f) (record {
        stands = t.whole.forest.stands;
        sound = t.whole.forest.sound;
        single = t.whole.forest.single;
        few = few;
      }),
    )

pub ok_by : {A E : Type 0} {P Q : A → Type 0} (r : Result A E) → ((x : A) → P x → Q x) → IfOk r P → IfOk r Q
ok_by (Ok x) f h = f x h
ok_by (Err e) f h = h
