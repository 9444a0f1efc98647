-- The lists of a forest's directories begin at different places: a record where two begin would have two references.
use Rattle.std.proofs.Common.{◌≡◌, ◌≢◌, ℕ, ◌<◌, true, List, Option, Some, IsSome, refl, sym, ap, subst, ◌∙◌, arith}
use Rattle.record_forest.specs.declared.reference.Reference.{Reference}
use Rattle.record_forest.specs.declared.reference.Row.{Row}
use Rattle.record_forest.specs.Members.{Pairs}
use Rattle.record_forest.specs.References.{Reached, more}
use Rattle.record_forest.specs.Forest.{Forest, all_rows, IsForest}
use Rattle.record_forest.proofs.Lists.{pairs_from, pairs_of}
use Rattle.record_forest.proofs.Back.{clean_of}
use Rattle.cramfs_format.specs.declared.order.Order.{Order}
use Rattle.cramfs_format.specs.Inode.{size_of, type_of, offset_of, list_start}
use Rattle.cramfs_format.specs.Refers.{references, reference_target, LeadsToSound}
use Rattle.cramfs_format.proofs.Lists.{directory_list, start_is}
use Rattle.cramfs_format.proofs.Lawful.{references_lawful, target_entry}
use Rattle.cramfs_format.proofs.Bridge.{IsFine, fine_which, fine_above, rows_fine}
use Rattle.cramfs_format.proofs.Spans.{ListsApart}

-- the reference to the first record in the list of the record at v
abbrev first : Order → List ℕ → ℕ → Reference
first o b v = record { source = v; which = list_start o b v }

first_leads : (o : Order) (b : List ℕ) (v : ℕ) → v ≢ 0 → type_of o b v ≡ 4 → 0 < size_of o b v
    → reference_target o b (first o b v) ≡ Some (list_start o b v)
first_leads o b v n t l = let d = directory_list o b v t in target_entry o b (first o b v) n (omega arith)

some_live : {t : Option ℕ} {p : ℕ} → t ≡ Some p → IsSome t
some_live e = subst IsSome (sym e) refl

module _ {o : Order} {b : List ℕ} where
  leads : (y : Row) → IsFine o b y → type_of o b y.offset ≡ 4 → 0 < size_of o b y.offset
      → reference_target o b (first o b y.reference.which) ≡ Some (offset_of o b y.offset)
  leads y k t l =
      subst (λ (v : ℕ). reference_target o b (first o b v) ≡ Some (offset_of o b y.offset)) (sym (fine_which y k))
      (first_leads o b y.offset (fine_above y k) t l ∙ ap Some (start_is o b y.offset))

  reached : (y : Row) → IsFine o b y → type_of o b y.offset ≡ 4 → 0 < size_of o b y.offset
      → Reached (references o b) (LeadsToSound o b) (first o b y.reference.which)
  reached y k t l = more k.reached k.sound true refl (some_live (leads y k t l))

pub lists_apart : {o : Order} {b : List ℕ} {most : ℕ} (f : Forest) → IsForest (references o b) (LeadsToSound o b) most f
    → Pairs (ListsApart o b) (all_rows (references o b) f)
lists_apart {o} {b} {most} f h =
    pairs_of (IsFine o b) (λ (x : Row) (y : Row). x.offset ≢ y.offset) (ListsApart o b) apart
    (all_rows (references o b) f) (rows_fine o b most f h)
    (pairs_from (λ (x : Row) (y : Row). x.offset ≢ y.offset) (all_rows (references o b) f) h.single)
  where
    apart : (x y : Row) → IsFine o b x → IsFine o b y → x.offset ≢ y.offset → ListsApart o b x y
    apart x y i j n t t' l e l' = (clean_of (references_lawful o b) h).once (offset_of o b x.offset) (record {
      one = first o b x.reference.which;
      other = first o b y.reference.which;
      differ = λ s. n (sym (fine_which x i) ∙ ap (λ (z : Reference). z.source) s ∙ fine_which y j);
      one_reached = reached x i t l;
      other_reached = reached y j t' l';
      one_leads = leads x i t l;
      other_leads = leads y j t' l' ∙ ap Some (sym e);
    })
