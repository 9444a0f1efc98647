-- The extents of the rows of a checked image are those of its tree.
use Rattle.std.proofs.Common.{◌≡◌, ◌≤◌, ℕ, List, length, sym, ap, subst, ◌∙◌, Result, Ok, Err, IfOk}
use Rattle.std.specs.List.{All}
use Rattle.rom_fields.specs.declared.span.Span.{Span}
use Rattle.record_forest.specs.declared.reference.Row.{Row}
use Rattle.record_forest.specs.Forest.{Forest, all_rows, IsForest}
use Rattle.record_forest.proofs.Same.{same_forest}
use Rattle.cramfs_format.specs.declared.order.Order.{Order}
use Rattle.cramfs_format.specs.Refers.{references, LeadsToSound}
use Rattle.cramfs_format.specs.Superblock.{IsSuperblock, accessible}
use Rattle.cramfs_format.specs.Tree.{extents_of, IsTree}
use Rattle.cramfs_image.specs.Phases.{IsRecord}
use Rattle.cramfs_image.specs.Extents.{AreTheSame}
use Rattle.cramfs_image.proofs.Trees.{rows_records}

pub ok_by : {A E : Type 0} (P Q : A → Type 0) (r : Result A E) → ((x : A) → P x → Q x) → IfOk r P → IfOk r Q
ok_by P Q (Ok x) f h = f x h
ok_by P Q (Err e) f h = tt

-- p is the image's order, and b its accessible bytes
module _ (o p : Order) (all given b : List ℕ) (order : p ≡ o) (bytes : given ≡ all) (cut : b ≡ accessible p given) where
  here : b ≡ accessible o all
  here = cut ∙ ap (λ (v : Order). accessible v given) order ∙ ap (accessible o) bytes

  pub records_by : (c : List ℕ) → IsSuperblock o all c → (most : ℕ) (f : Forest) (rows lent : List Row) → 76 ≤ length b
      → rows ≡ all_rows (references p b) f → IsForest (references p b) (LeadsToSound p b) most f → lent ≡ rows
      → All (λ (x : Row). IsRecord p b x.offset) lent
  records_by c super most f rows lent long e h l =
      let s : IsSuperblock o all b = subst (IsSuperblock o all) (super.cut ∙ sym here) super in
      let t : IsSuperblock p given b =
      subst (λ (v : Order). IsSuperblock v given b) (sym order)
      (subst (λ (v : List ℕ). IsSuperblock o v b) (sym bytes) s) in
      rows_records t most f lent long (l ∙ e) h

  pub lists_by : (most : ℕ) (f : Forest) (rows lent : List Row) → rows ≡ all_rows (references p b) f
      → IsForest (references p b) (LeadsToSound p b) most f → lent ≡ rows → (xs : List Span)
      → AreTheSame xs (extents_of p b lent) → (c : List ℕ) (n deepest : ℕ) (e : Forest) → IsSuperblock o all c
      → IsTree o c n deepest e → AreTheSame xs (extents_of o c (all_rows (references o c) e))
  lists_by most f rows lent is h l xs same c n deepest e super t =
      let d : b ≡ c = here ∙ sym super.cut in
      let k : IsForest (references o b) (LeadsToSound o b) n e =
      subst (λ (v : List ℕ). IsForest (references o v) (LeadsToSound o v) n e) (sym d) t.forest in
      let m : IsForest (references o b) (LeadsToSound o b) most f =
      subst (λ (v : Order). IsForest (references v b) (LeadsToSound v b) most f) order h in
      let one : f ≡ e = same_forest (references o b) (references o b).top f e m.stands k.stands in
      let s : AreTheSame xs (extents_of o b (all_rows (references o b) f)) =
      subst (λ (v : Order). AreTheSame xs (extents_of v b (all_rows (references v b) f))) order
      (subst (λ (v : List Row). AreTheSame xs (extents_of p b v)) (l ∙ is) same) in
      subst (λ (v : List ℕ). AreTheSame xs (extents_of o v (all_rows (references o v) e))) d
      (subst (λ (v : Forest). AreTheSame xs (extents_of o b (all_rows (references o b) v))) one s)
