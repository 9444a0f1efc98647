-- The check's fault is the least of the image's faults, and an image that it accepts has none.
use Rattle.std.proofs.Common.{◌≡◌, ℕ, ◌+◌, ◌<◌, ◌≤◌, min, false, List, ◌∷◌, ◌++◌, length, drop, Some, refl, sym, ap}
use Rattle.std.proofs.Common.{subst, ◌∙◌, arith}
use Rattle.std.specs.List.{AllByRecursion as Every}
use Rattle.rom_tree.specs.declared.types.Limits.{Limits}
use Rattle.rom_fields.specs.declared.check_error.CheckError.TheVariants.{Fault as FaultAnswer}
use Rattle.rom_fields.specs.Extents.{OverlapsAt, IsLeastOf}
use Rattle.rom_fields.specs.declared.fault.Fault.{Fault}
use Rattle.record_forest.specs.declared.reference.Row.{Row}
use Rattle.record_forest.specs.declared.traversal.TraversalError.{TraversalError}
use Rattle.record_forest.specs.declared.traversal.TraversalError.TheVariants.{OutOfMemory as NoMemory}
use Rattle.record_forest.specs.declared.traversal.TraversalError.TheVariants.{TooMany as TooManyRefusal, Record}
use Rattle.record_forest.specs.declared.traversal.TraversalError.TheVariants.{Twice as TwiceRefusal}
use Rattle.record_forest.specs.Traversal.{IsLeastRefusal}
use Rattle.record_forest.specs.Answers.{traversal_answer}
use Rattle.record_forest.specs.Members.{Pairs}
use Rattle.record_forest.specs.Forest.{Forest, none, at, all_rows, IsForest}
use Rattle.record_forest.specs.Faults.{IsLeastFault, IsNone}
use Rattle.record_forest.proofs.Lists.{pairs_from}
use Rattle.record_forest.proofs.Back.{clean_of}
use Rattle.record_forest.proofs.Exact.{Differ, every_here, split_at, FoundAt, none_found, least_found, least_numbered}
use Rattle.romfs_format.specs.Record.{name_of, type_of}
use Rattle.romfs_format.specs.Refers.{references, LeadsToSound, LeadsToFault}
use Rattle.romfs_format.specs.Tree.{extents_of, root_of, IsSuperblock}
use Rattle.rom_tree.specs.Dots.{is_dots}
use Rattle.romfs_format.specs.Superblock.{HasImageFault, short, no_magic, bad_size, bad_sum, no_root, root_kind}
use Rattle.romfs_format.specs.Superblock.{accessible, HasSum, HasRoot}
use Rattle.romfs_format.specs.Faults.{HasDepthFault, HasExtentFault, HasNameFault, HasTwiceFault, HasTooMany}
use Rattle.romfs_format.specs.Faults.{HasReachedFault, HasNoFault, IsLeastPhaseFault, record_fault, twice_fault}
use Rattle.romfs_format.specs.Faults.{depth_fault, extent_fault, name_fault, many, phase}
use Rattle.romfs_format.proofs.Faults.{sound_faultless}
use Rattle.romfs_format.proofs.Lawful.{references_lawful}
use Rattle.romfs_format.proofs.Sets.{depth_to_row, row_to_depth}
use Rattle.romfs_format.proofs.Spans.{overlap_fault, fault_overlap}
use Rattle.romfs_format.proofs.Named.{rows_are_reached, reached_has, listed_single}
use Rattle.romfs_image.specs.Checked.{IsLeastAnswer}
use Rattle.romfs_image.specs.Phases.{IsTooDeep, AreWell, IsLaterFault, deep, overlap, name}
use Rattle.romfs_image.proofs.Exact.{into_names, from_names}
use Rattle.romfs_image.proofs.Naming.{well_faultless}

-- a well formed superblock has no fault
pub super_faultless : {bytes b : List ℕ} {r : ℕ} → IsSuperblock bytes b r → IsNone (HasImageFault bytes)
super_faultless s e (short l is) = let k = s.long in omega arith
super_faultless s e (no_magic l m is) = m s.begins
super_faultless s e (bad_size l m k is) = k s.size
super_faultless s e (bad_sum l m k n is) = n (subst HasSum s.cut s.sum)
super_faultless {bytes} {b} {r} s e (no_root l m k n o is) =
    o (subst HasRoot s.cut (s.volume, subst (λ (q : ℕ). q + 32 ≤ length b) s.root s.fits))
super_faultless {bytes} {b} {r} s e (root_kind l m k n o t is) =
    t (subst (λ (c : List ℕ). type_of c (root_of c) ≡ 1) s.cut (subst (λ (q : ℕ). type_of b q ≡ 1) s.root s.directory))

module _ {b : List ℕ} {r most : ℕ} {f : Forest} (above : 0 < r)
    (h : IsForest (references b r) (LeadsToSound b r) most f) where
  single : Pairs Differ (all_rows (references b r) f)
  single = pairs_from Differ (all_rows (references b r) f) h.single

  pub no_reached_fault : IsNone (HasReachedFault b r)
  no_reached_fault e k =
      sound_faultless ((clean_of (references_lawful b r above) h).sound k.reference k.reached) e.number k.faulty.number

  pub no_twice_fault : IsNone (HasTwiceFault b r)
  no_twice_fault e k = (clean_of (references_lawful b r above) h).once e.at k.0

  pub not_too_many : HasTooMany b r most → ⊥
  not_too_many k = (clean_of (references_lawful b r above) h).few k

  -- each row too deep is an entry too deep
  deep_rows : (m : ℕ) (e : Forest) → Every
      (λ (y : Row). is_dots (name_of b y.offset) ≡ false → m < y.depth
      → HasDepthFault b r m (record { number = 21; at = y.offset })) (drop 1 (all_rows (references b r) e))
      → Every (λ (y : Row). is_dots (name_of b y.offset) ≡ false → m < y.depth
      → HasDepthFault b r m (record { number = 21; at = y.offset })) (all_rows (references b r) e)
  deep_rows m none k = tt
  deep_rows m (at p own after) k = ((λ e l. absurd (omega arith)), k)

  pub into_depths : (m : ℕ) (before : List Row) (x : Row) (after : List Row) (n : ℕ)
      → all_rows (references b r) f ≡ before ++ x ∷ after → IsTooDeep b m before x n
      → HasDepthFault b r m (record { number = n; at = x.offset })
  into_depths m before x after n among t =
      let P : Row → Type 0 = λ y. is_dots (name_of b y.offset) ≡ false → m < y.depth
      → HasDepthFault b r m (record { number = 21; at = y.offset }) in
      let k : P x = every_here P before x after (subst (Every P) among (deep_rows m f (row_to_depth above h m))) in
      subst (λ (v : ℕ). HasDepthFault b r m (record { number = v; at = x.offset })) (sym t.0) (k t.1 t.2)

  from_depths : (m : ℕ) (e : Fault) → HasDepthFault b r m e → FoundAt (IsTooDeep b m) (all_rows (references b r) f) e
  from_depths m e d =
      let s = split_at (λ (y : Row). (y.offset ≡ e.at) × ((is_dots (name_of b y.offset) ≡ false) × (m < y.depth)))
      (all_rows (references b r) f) (depth_to_row above h m e d) in
      record { before = s.0; row = s.1; after = s.2; among = s.3; at = s.4.0; found = (d.number, s.4.1.0, s.4.1.1) }

  from_overlaps : (e : Fault) → HasExtentFault b r e → OverlapsAt (extents_of b r (all_rows (references b r) f)) e.at
  from_overlaps e d =
      fault_overlap (all_rows (references b r) f) above single (rows_are_reached above h) (reached_has above h) e d

  least_overlap : (p : ℕ) (e : Fault) → IsLeastOf (OverlapsAt (extents_of b r (all_rows (references b r) f))) (Some p)
      → e ≡ record { number = 22; at = p } → IsLeastFault (HasExtentFault b r) e
  least_overlap p e v is =
      let all = all_rows (references b r) f in
      subst (IsLeastFault (HasExtentFault b r)) (sym is)
      (least_numbered (HasExtentFault b r) 22 p
      (overlap_fault all above single (rows_are_reached above h) (reached_has above h) p v.here)
      (λ d k. (v.least d.at (from_overlaps d k), k.number)))

  -- The fault of the later phases is the least,
  pub least_later : (deepest m : ℕ) (e : Fault) → m ≡ min deepest 64
      → IsLaterFault b r m (all_rows (references b r) f) e → IsLeastPhaseFault b r deepest e
  least_later deepest m e is (deep d) =
      depth_fault no_reached_fault no_twice_fault
      (subst (λ (v : ℕ). IsLeastFault (HasDepthFault b r v) e) is
      (least_found single (into_depths m) (from_depths m) e d))
  least_later deepest m e is (overlap d {p} v i) =
      extent_fault no_reached_fault no_twice_fault
      (subst (λ (v : ℕ). IsNone (HasDepthFault b r v)) is (none_found single (into_depths m) (from_depths m) d))
      (least_overlap p e v i)
  least_later deepest m e is (name d v n) =
      name_fault no_reached_fault no_twice_fault
      (subst (λ (v : ℕ). IsNone (HasDepthFault b r v)) is (none_found single (into_depths m) (from_depths m) d))
      (λ x k. v.least x.at (from_overlaps x k))
      (least_found (listed_single above h) (into_names above h) (from_names above h) e n)

  -- and where they find none there is none.
  pub none_later : (deepest m : ℕ) → m ≡ min deepest 64 → AreWell b r m (all_rows (references b r) f)
      → IsNone (HasDepthFault b r (min deepest 64)) × IsNone (HasExtentFault b r) × IsNone (HasNameFault b r)
  none_later deepest m is w = (
    subst (λ (v : ℕ). IsNone (HasDepthFault b r v)) is
        (λ e d. let k = from_depths m e d in let l = w.shallow k.before k.row k.after k.among k.found.1 in let n =
        k.found.2 in omega arith),
    (λ e d. w.apart e.at (from_overlaps e d)),
    (λ e d. let k = from_names above h e d in well_faultless (w.named k.before k.row k.after k.among) e.number k.found),
  )

module _ {bytes b : List ℕ} {r : ℕ} (super : IsSuperblock bytes b r) where
  place : r ≡ root_of (accessible bytes)
  place = super.root ∙ ap root_of super.cut

  moved : (deepest : ℕ) (e : Fault) → IsLeastPhaseFault b r deepest e
      → IsLeastPhaseFault (accessible bytes) (root_of (accessible bytes)) deepest e
  moved deepest e h = subst (λ (c : List ℕ). IsLeastPhaseFault c (root_of (accessible bytes)) deepest e) super.cut
      (subst (λ (q : ℕ). IsLeastPhaseFault b q deepest e) place h)

  many_there : (most : ℕ) → HasTooMany b r most → HasTooMany (accessible bytes) (root_of (accessible bytes)) most
  many_there most h = subst (λ (c : List ℕ). HasTooMany c (root_of (accessible bytes)) most) super.cut
      (subst (λ (q : ℕ). HasTooMany b q most) place h)

  many_here : (most : ℕ) → HasTooMany (accessible bytes) (root_of (accessible bytes)) most → HasTooMany b r most
  many_here most h = subst (λ (q : ℕ). HasTooMany b q most) (sym place)
      (subst (λ (c : List ℕ). HasTooMany c (root_of (accessible bytes)) most) (sym super.cut) h)

  -- What the walk refuses is the least fault,
  pub least_walk : (limits : Limits) (e : TraversalError) → 0 < r
      → IsLeastRefusal (references b r) (LeadsToSound b r) (LeadsToFault b r) limits.references e
      → IsLeastAnswer bytes limits (traversal_answer e)
  least_walk limits NoMemory above h = super_faultless super
  least_walk limits TooManyRefusal above h = many (super_faultless super) (many_there limits.references h) refl
  least_walk limits (Record e) above h =
      phase (super_faultless super) (λ k. h.0 (many_here limits.references k)) (moved limits.depth e (record_fault h.1))
  least_walk limits (TwiceRefusal q) above h =
      phase (super_faultless super) (λ k. h.0 (many_here limits.references k))
      (moved limits.depth (record { number = 20; at = q })
      (twice_fault (λ e k. sound_faultless (h.1 k.reference k.reached) e.number k.faulty.number)
      (least_numbered (HasTwiceFault b r) 20 q (h.2.here, refl) (λ d k. (h.2.least d.at k.0, k.1)))))

  -- what the later phases refuse is,
  pub least_after : (limits : Limits) (m : ℕ) (f : Forest) (rows : List Row) (e : Fault) → 0 < r
      → m ≡ min limits.depth 64 → rows ≡ all_rows (references b r) f
      → IsForest (references b r) (LeadsToSound b r) limits.references f
      → IsLaterFault b r m rows e → IsLeastAnswer bytes limits (FaultAnswer e.number e.at)
  least_after limits m f rows e above is i h k =
      phase (super_faultless super) (λ z. not_too_many above h (many_here limits.references z))
      (moved limits.depth e (least_later above h limits.depth m e is
      (subst (λ (xs : List Row). IsLaterFault b r m xs e) i k)))

  -- and what is accepted has no fault.
  pub faultless : (limits : Limits) (m : ℕ) (f : Forest) (rows : List Row) → 0 < r → m ≡ min limits.depth 64
      → rows ≡ all_rows (references b r) f → IsForest (references b r) (LeadsToSound b r) limits.references f
      → AreWell b r m rows → HasNoFault bytes limits.references limits.depth
  faultless limits m f rows above is i h w =
      let n = none_later above h limits.depth m is (subst (AreWell b r m) i w) in
      let move : (Q : List ℕ → ℕ → Type 0) → Q b r → Q (accessible bytes) (root_of (accessible bytes)) =
      λ Q q. subst (λ (c : List ℕ). Q c (root_of (accessible bytes))) super.cut (subst (Q b) place q) in
      record {
        image = super_faultless super;
        few = λ z. not_too_many above h (many_here limits.references z);
        sound = move (λ c q. IsNone (HasReachedFault c q)) (no_reached_fault above h);
        once = move (λ c q. IsNone (HasTwiceFault c q)) (no_twice_fault above h);
        shallow = move (λ c q. IsNone (HasDepthFault c q (min limits.depth 64))) n.0;
        apart = move (λ c q. IsNone (HasExtentFault c q)) n.1;
        named = move (λ c q. IsNone (HasNameFault c q)) n.2;
      }
