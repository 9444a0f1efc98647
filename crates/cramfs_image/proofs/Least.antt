-- The check's fault is the least of the image's faults, and an image that it accepts has none.
use Rattle.std.proofs.Common.{◌≡◌, ℕ, min, List, Some, refl, sym, subst, arith}
use Rattle.rom_tree.specs.declared.types.Limits.{Limits}
use Rattle.rom_fields.specs.declared.check_error.CheckError.TheVariants.{Fault as FaultAnswer}
use Rattle.rom_fields.specs.Extents.{OverlapsAt, IsLeastOf}
use Rattle.rom_fields.specs.declared.fault.Fault.{Fault}
use Rattle.record_forest.specs.declared.reference.Row.{Row}
use Rattle.record_forest.specs.declared.traversal.TraversalError.{TraversalError}
use Rattle.record_forest.specs.declared.traversal.TraversalError.TheVariants.{OutOfMemory as NoMemory}
use Rattle.record_forest.specs.declared.traversal.TraversalError.TheVariants.{TooMany as TooManyRefusal, Record}
use Rattle.record_forest.specs.declared.traversal.TraversalError.TheVariants.{Twice as TwiceRefusal}
use Rattle.record_forest.specs.Traversal.{IsLeastRefusal}
use Rattle.record_forest.specs.Answers.{traversal_answer}
use Rattle.record_forest.specs.Forest.{Forest, all_rows, IsForest}
use Rattle.record_forest.specs.Faults.{IsLeastFault, IsNone}
use Rattle.record_forest.proofs.Back.{clean_of}
use Rattle.record_forest.proofs.Exact.{none_found, least_found, least_numbered}
use Rattle.cramfs_format.specs.declared.order.Order.{Order}
use Rattle.cramfs_format.specs.Refers.{references, LeadsToSound, LeadsToFault}
use Rattle.cramfs_format.specs.Tree.{extents_of}
use Rattle.cramfs_format.specs.Superblock.{IsSuperblock, HasImageFault, short, no_magic, bad_size, bad_flags, bad_crc}
use Rattle.cramfs_format.specs.Superblock.{unsigned, bad_root, accessible, HasFlags, HasCrc, HasSignature, HasRoot}
use Rattle.cramfs_format.specs.Faults.{HasDepthFault, HasExtentFault, HasNameFault, HasTwiceFault, HasTooMany}
use Rattle.cramfs_format.specs.Faults.{HasReachedFault, HasNoFault, IsLeastPhaseFault, record_fault, twice_fault}
use Rattle.cramfs_format.specs.Faults.{depth_fault, extent_fault, name_fault, many, phase}
use Rattle.cramfs_format.proofs.Faults.{led_faultless}
use Rattle.cramfs_format.proofs.Lawful.{references_lawful}
use Rattle.cramfs_format.proofs.Alone.{lists_apart}
use Rattle.cramfs_format.proofs.Spans.{overlap_fault, fault_overlap}
use Rattle.cramfs_format.proofs.Named.{rows_are_reached, reached_has, below_single}
use Rattle.cramfs_image.specs.Checked.{IsLeastAnswer}
use Rattle.cramfs_image.specs.Phases.{AreWell, IsLaterFault, of_depth, of_overlap, of_name}
use Rattle.cramfs_image.proofs.Exact.{into_names, from_names, into_depths, from_depths}
use Rattle.cramfs_image.proofs.Naming.{well_faultless}

-- a well formed superblock has no fault
pub super_faultless : {o : Order} {bytes b : List ℕ} → IsSuperblock o bytes b → IsNone (HasImageFault o bytes)
super_faultless s e (short l is) = let k = s.long in omega arith
super_faultless s e (no_magic l m is) = m s.begins
super_faultless s e (bad_size l m k is) = k s.size
super_faultless {o} s e (bad_flags l m k n is) = n (subst (HasFlags o) s.cut s.flags)
super_faultless {o} s e (bad_crc l m k n c is) = c (subst (HasCrc o) s.cut s.crc)
super_faultless s e (unsigned l m k n c g is) = g (subst HasSignature s.cut s.signed)
super_faultless {o} s e (bad_root l m k n c g r is) = r (subst (HasRoot o) s.cut s.root)

module _ {o : Order} {b : List ℕ} {most : ℕ} {f : Forest}
    (h : IsForest (references o b) (LeadsToSound o b) most f) where
  pub no_reached_fault : IsNone (HasReachedFault o b)
  no_reached_fault e k = led_faultless ((clean_of (references_lawful o b) h).sound k.reference k.reached) e k.faulty

  pub no_twice_fault : IsNone (HasTwiceFault o b)
  no_twice_fault e k = (clean_of (references_lawful o b) h).once e.at k.0

  pub not_too_many : HasTooMany o b most → ⊥
  not_too_many k = (clean_of (references_lawful o b) h).few k

  pub into_overlaps : (p : ℕ) → OverlapsAt (extents_of o b (all_rows (references o b) f)) p
      → HasExtentFault o b (record { number = 22; at = p })
  into_overlaps p k =
      overlap_fault (all_rows (references o b) f) (lists_apart f h) (rows_are_reached h) (reached_has h) p k

  pub from_overlaps : (e : Fault) → HasExtentFault o b e
      → OverlapsAt (extents_of o b (all_rows (references o b) f)) e.at
  from_overlaps e d =
      fault_overlap (all_rows (references o b) f) (lists_apart f h) (rows_are_reached h) (reached_has h) e d

  least_overlap : (p : ℕ) (e : Fault) → IsLeastOf (OverlapsAt (extents_of o b (all_rows (references o b) f))) (Some p)
      → e ≡ record { number = 22; at = p } → IsLeastFault (HasExtentFault o b) e
  least_overlap p e v is = subst (IsLeastFault (HasExtentFault o b)) (sym is)
      (least_numbered (HasExtentFault o b) 22 p (into_overlaps p v.here)
      (λ d k. (v.least d.at (from_overlaps d k), k.number)))

  -- The fault of the later phases is the least,
  pub least_later : (deepest m : ℕ) (e : Fault) → m ≡ min deepest 64
      → IsLaterFault o b m (all_rows (references o b) f) e → IsLeastPhaseFault o b deepest e
  least_later deepest m e is (of_depth d) =
      depth_fault no_reached_fault no_twice_fault
      (subst (λ (v : ℕ). IsLeastFault (HasDepthFault o b v) e) is
      (least_found (below_single h) (into_depths h m) (from_depths h m) e d))
  least_later deepest m e is (of_overlap d {p} v i) =
      extent_fault no_reached_fault no_twice_fault
      (subst (λ (v : ℕ). IsNone (HasDepthFault o b v)) is
      (none_found (below_single h) (into_depths h m) (from_depths h m) d)) (least_overlap p e v i)
  least_later deepest m e is (of_name d v n) =
      name_fault no_reached_fault no_twice_fault
      (subst (λ (v : ℕ). IsNone (HasDepthFault o b v)) is
      (none_found (below_single h) (into_depths h m) (from_depths h m) d)) (λ x k. v.least x.at (from_overlaps x k))
      (least_found (below_single h) (into_names h) (from_names h) e n)

  -- and where they find none there is none.
  pub none_later : (deepest m : ℕ) → m ≡ min deepest 64 → AreWell o b m (all_rows (references o b) f)
      → IsNone (HasDepthFault o b (min deepest 64)) × IsNone (HasExtentFault o b) × IsNone (HasNameFault o b)
  none_later deepest m is w = (
    subst (λ (v : ℕ). IsNone (HasDepthFault o b v)) is
        (λ e d. let k = from_depths h m e d in let l = w.shallow k.before k.row k.after k.among k.found.1 in let n =
        k.found.2 in omega arith),
    (λ e d. w.apart e.at (from_overlaps e d)),
    (λ e d. let k = from_names h e d in well_faultless (w.named k.before k.row k.after k.among) e.number k.found),
  )

module _ {o : Order} {bytes b : List ℕ} (super : IsSuperblock o bytes b) where
  moved : (deepest : ℕ) (e : Fault) → IsLeastPhaseFault o b deepest e
      → IsLeastPhaseFault o (accessible o bytes) deepest e
  moved deepest e h = subst (λ (c : List ℕ). IsLeastPhaseFault o c deepest e) super.cut h

  many_here : (most : ℕ) → HasTooMany o (accessible o bytes) most → HasTooMany o b most
  many_here most h = subst (λ (c : List ℕ). HasTooMany o c most) (sym super.cut) h

  -- What the walk refuses is the least fault,
  pub least_walk : (limits : Limits) (e : TraversalError)
      → IsLeastRefusal (references o b) (LeadsToSound o b) (LeadsToFault o b) limits.references e
      → IsLeastAnswer o bytes limits (traversal_answer e)
  least_walk limits NoMemory h = super_faultless super
  least_walk limits TooManyRefusal h =
      many (super_faultless super) (subst (λ (c : List ℕ). HasTooMany o c limits.references) super.cut h) refl
  least_walk limits (Record e) h =
      phase (super_faultless super) (λ k. h.0 (many_here limits.references k)) (moved limits.depth e (record_fault h.1))
  least_walk limits (TwiceRefusal q) h =
      phase (super_faultless super) (λ k. h.0 (many_here limits.references k))
      (moved limits.depth (record { number = 20; at = q })
      (twice_fault (λ e k. led_faultless (h.1 k.reference k.reached) e k.faulty)
      (least_numbered (HasTwiceFault o b) 20 q (h.2.here, refl) (λ d k. (h.2.least d.at k.0, k.1)))))

  -- what the later phases refuse is,
  pub least_after : (limits : Limits) (m : ℕ) (f : Forest) (rows : List Row) (e : Fault) → m ≡ min limits.depth 64
      → rows ≡ all_rows (references o b) f → IsForest (references o b) (LeadsToSound o b) limits.references f
      → IsLaterFault o b m rows e → IsLeastAnswer o bytes limits (FaultAnswer e.number e.at)
  least_after limits m f rows e is i h k =
      phase (super_faultless super) (λ z. not_too_many h (many_here limits.references z))
      (moved limits.depth e (least_later h limits.depth m e is
      (subst (λ (xs : List Row). IsLaterFault o b m xs e) i k)))

  -- and what is accepted has no fault.
  pub faultless : (limits : Limits) (m : ℕ) (f : Forest) (rows : List Row) → m ≡ min limits.depth 64
      → rows ≡ all_rows (references o b) f → IsForest (references o b) (LeadsToSound o b) limits.references f
      → AreWell o b m rows
      → HasNoFault o bytes limits.references limits.depth
  faultless limits m f rows is i h w =
      let n = none_later h limits.depth m is (subst (AreWell o b m) i w) in
      let move : (Q : List ℕ → Type 0) → Q b → Q (accessible o bytes) = λ Q q. subst Q super.cut q in
      record {
        image = super_faultless super;
        few = λ z. not_too_many h (many_here limits.references z);
        sound = move (λ c. IsNone (HasReachedFault o c)) (no_reached_fault h);
        once = move (λ c. IsNone (HasTwiceFault o c)) (no_twice_fault h);
        shallow = move (λ c. IsNone (HasDepthFault o c (min limits.depth 64))) n.0;
        apart = move (λ c. IsNone (HasExtentFault o c)) n.1;
        named = move (λ c. IsNone (HasNameFault o c)) n.2;
      }
