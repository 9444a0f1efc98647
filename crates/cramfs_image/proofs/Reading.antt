-- The facts that the reader finds of a reference that the walk has reached.
use Rattle.std.proofs.Common.{◌≡◌, ◌≢◌, ℕ, ◌+◌, ◌^◌, ◌<◌, ◌≤◌, List, length, None, Some, refl, sym, ap, ◌∙◌, arith}
use Rattle.std.proofs.Common.{if◌then◌else◌}
use Rattle.std.proofs.lemmas.Bool.{ne_eqb, eq-eqb, le-ltb}
use Rattle.std.specs.Prelude.{nat_lt}
use Rattle.record_forest.specs.declared.reference.Reference.{Reference}
use Rattle.record_forest.specs.References.{Reached}
use Rattle.cramfs_format.specs.declared.order.Order.{Order}
use Rattle.cramfs_format.specs.Inode.{end_of, list_end}
use Rattle.cramfs_format.specs.Refers.{references, reference_target, LeadsToSound, LeadsToFault}
use Rattle.cramfs_format.proofs.Lawful.{IsPlaced, at_top, in_chain, reached_placed, target_placed, placed_above}
use Rattle.cramfs_format.proofs.Lawful.{sound_within, source_within}
use Rattle.cramfs_format.proofs.Faults.{faultless_led}
use Rattle.record_forest.specs.Faults.{IsLeastFaultOf}

-- a reference, by its parts
pub by_parts : (x : Reference) (s w : ℕ) → x.source ≡ s → x.which ≡ w → x ≡ record { source = s; which = w }
by_parts x s w e f = λ t. record { source = e t; which = f t }

-- the record to which an entry's reference leads
pub target_is : (o : Order) (b : List ℕ) (x : Reference) (which end : ℕ) → x.source ≢ 0 → x.which ≡ which
    → end ≡ list_end o b x.source → (if nat_lt which end then Some which else None) ≡ reference_target o b x
unfolding reference_target
target_is o b x which end n e f = rw (ne_eqb x.source 0 n, e, f) refl

-- nothing comes after the root
pub target_after_root : (o : Order) (b : List ℕ) (x : Reference) (which end : ℕ) → x.source ≡ 0 → end ≡ 0 → 64 < x.which
    → (if nat_lt which end then Some which else None) ≡ reference_target o b x
unfolding reference_target
target_after_root o b x which end e f l =
    let n : x.which ≢ 64 = λ z. omega arith in
    rw (eq-eqb x.source 0 e, ne_eqb x.which 64 n, f, le-ltb which 0 (omega arith)) refl

module _ {o : Order} {b : List ℕ} {x : Reference} (p : ℕ) (long : 76 ≤ length b)
    (reached : Reached (references o b) (LeadsToSound o b) x) (target : reference_target o b x ≡ Some p) where
  placed : IsPlaced o b x
  placed = reached_placed x reached

  pub place_is : p ≡ x.which
  place_is = let z : Some p ≡ Some x.which = sym target ∙ target_placed x placed in cc

  pub place_live : p ≢ 0
  place_live z = let a = placed_above x placed in let e = place_is in omega arith

  pub root_header : x.source ≡ 0 → x.which + 12 ≤ length b
  root_header e = by placed where
    by : IsPlaced o b x → x.which + 12 ≤ length b
    by (at_top i j) = omega arith
    by (in_chain n i j k l m) = absurd (i e)

  pub root_place_is : x.source ≡ 0 → p ≡ 64
  root_place_is e = by placed where
    by : IsPlaced o b x → p ≡ 64
    by (at_top i j) = let f = place_is in omega arith
    by (in_chain n i j k l m) = absurd (i e)

  pub source_header : x.source ≢ 0 → x.source + 12 ≤ length b
  source_header n = (source_within x long reached n).0

  pub source_end : x.source ≢ 0 → list_end o b x.source ≤ length b
  source_end n = (source_within x long reached n).1

  module _ (sound : LeadsToSound o b x) where
    pub place_header : p + 12 ≤ length b
    place_header = let e = place_is in let w = sound_within x long placed sound in omega arith

    pub place_end : length b < 2 ^ 32 → (end : ℕ) → end ≡ end_of o b p → end < p + 268 → end < 2 ^ 32
    place_end small end e near = by placed where
      by : IsPlaced o b x → end < 2 ^ 32
      by (at_top i j) = let f = place_is in omega arith
      by (in_chain n i j k l m) = let f : end ≡ end_of o b x.which = e ∙ ap (end_of o b) place_is in let s =
          (sound.entry i).fits.1 in omega arith

-- without a fault it leads to a valid record
pub sound_led : (o : Order) (b : List ℕ) (x : Reference) → IsLeastFaultOf (LeadsToFault o b x) None → LeadsToSound o b x
sound_led o b x h = faultless_led (λ f k. h.least f k)
