-- The fault set of depth, extents and names against the rows of a forest.
use Rattle.std.proofs.Common.{◌≡◌, ◌≢◌, ℕ, ◌<◌, false, List, drop, Some, refl, sym, ap, subst, ◌∙◌}
use Rattle.std.proofs.lemmas.Bool.{ne_eqb}
use Rattle.std.specs.List.{AllPairs, AllByRecursion as Every}
use Rattle.record_forest.specs.declared.reference.Reference.{Reference}
use Rattle.rom_fields.specs.declared.fault.Fault.{Fault}
use Rattle.record_forest.specs.declared.reference.Row.{Row}
use Rattle.record_forest.specs.Members.{Has}
use Rattle.record_forest.specs.Forest.{Forest, none, at, Stands, all_rows, IsForest}
use Rattle.record_forest.specs.Faults.{InList, HasDepth}
use Rattle.record_forest.proofs.Lists.{every_weaker, every_both, has_weaker, pairs_from}
use Rattle.record_forest.proofs.Place.{Placed, rows_placed, depth_row}
use Rattle.romfs_format.specs.Record.{name_of}
use Rattle.romfs_format.specs.Refers.{references, reference_offset, LeadsToSound}
use Rattle.rom_tree.specs.Dots.{is_dots}
use Rattle.romfs_format.specs.Faults.{entry, HasDepthFault}
use Rattle.romfs_format.proofs.Bridge.{offset_some, top_offset, all_targets}
use Rattle.romfs_format.proofs.Lawful.{references_lawful}

-- if a reference's offset is p, it leads there
pub target_at : (b : List ℕ) (r : ℕ) (x : Reference) (p : ℕ) → p ≢ 0 → reference_offset b r x ≡ p
    → (references b r).target x ≡ Some p
target_at b r x p live e = rw (e, ne_eqb p 0 live) refl

module _ {b : List ℕ} {r most : ℕ} {f : Forest} (above : 0 < r)
    (h : IsForest (references b r) (LeadsToSound b r) most f) where
  -- an entry too deep is a row too deep
  pub depth_to_row : (m : ℕ) (e : Fault) → HasDepthFault b r m e
      → Has (λ (y : Row). (y.offset ≡ e.at) × ((is_dots (name_of b y.offset) ≡ false) × (m < y.depth)))
      (all_rows (references b r) f)
  depth_to_row m e d =
      has_weaker (λ (y : Row). (y.offset ≡ e.at) × (y.depth ≡ d.names))
      (λ (y : Row). (y.offset ≡ e.at) × ((is_dots (name_of b y.offset) ≡ false) × (m < y.depth)))
      (λ y k. (k.0, (ap (λ (p : ℕ). is_dots (name_of b p)) k.0 ∙ d.entry, subst (λ (n : ℕ). m < n) (sym k.1) d.deep)))
      (all_rows (references b r) f)
      (depth_row (references_lawful b r above) h e.at d.names d.depth)

  -- each row below the root: where it stands, how deep, and that it is not the root
  pub row_facts : Every (λ (y : Row). InList (references b r) (LeadsToSound b r) y.directory y.reference
      × (HasDepth (references b r) (LeadsToSound b r) y.offset y.depth
      × ((reference_offset b r y.reference ≡ y.offset) × (y.offset ≢ r))))
      (drop 1 (all_rows (references b r) f))
  row_facts = facts f h.stands h.single (rows_placed (references_lawful b r above) h)
    where
      facts : (f : Forest) → Stands (references b r) (references b r).top f
          → AllPairs (λ (x : Row) (y : Row). x.offset ≢ y.offset) (all_rows (references b r) f)
          → Every (Placed (references b r) (LeadsToSound b r)) (drop 1 (all_rows (references b r) f))
          → Every (λ (y : Row). InList (references b r) (LeadsToSound b r) y.directory y.reference
          × (HasDepth (references b r) (LeadsToSound b r) y.offset y.depth
          × ((reference_offset b r y.reference ≡ y.offset) × (y.offset ≢ r))))
          (drop 1 (all_rows (references b r) f))
      facts none s single placed = tt
      facts (at p own after) s single placed =
          let g = references b r in
          let below : List Row = drop 1 (all_rows g (at p own after)) in
          let is : p ≡ r = (offset_some (reference_offset b r g.top) p s.0).1 ∙ top_offset b r in
          let targets = (all_targets b r (at p own after) s).1 in
          let apart =
          (pairs_from (λ (x : Row) (y : Row). x.offset ≢ y.offset) (all_rows g (at p own after)) single).0 in
          every_weaker (λ (y : Row). Placed g (LeadsToSound b r) y
          × ((reference_offset b r y.reference ≡ y.offset) × (p ≢ y.offset)))
          (λ (y : Row). InList g (LeadsToSound b r) y.directory y.reference
          × (HasDepth g (LeadsToSound b r) y.offset y.depth
          × ((reference_offset b r y.reference ≡ y.offset) × (y.offset ≢ r))))
          (λ y k. (k.0.0, (k.0.1, (k.1.0, λ e. k.1.1 (is ∙ sym e))))) below
          (every_both (Placed g (LeadsToSound b r))
          (λ (y : Row). (reference_offset b r y.reference ≡ y.offset) × (p ≢ y.offset)) below placed
          (every_both (λ (y : Row). reference_offset b r y.reference ≡ y.offset)
          (λ (y : Row). p ≢ y.offset) below targets apart))

  -- a row too deep below the root is an entry too deep
  pub row_to_depth : (m : ℕ) → Every (λ (y : Row). is_dots (name_of b y.offset) ≡ false → m < y.depth
      → HasDepthFault b r m (record { number = 21; at = y.offset })) (drop 1 (all_rows (references b r) f))
  row_to_depth m =
      every_weaker (λ (y : Row). InList (references b r) (LeadsToSound b r) y.directory y.reference
      × (HasDepth (references b r) (LeadsToSound b r) y.offset y.depth
      × ((reference_offset b r y.reference ≡ y.offset) × (y.offset ≢ r))))
      (λ (y : Row). is_dots (name_of b y.offset) ≡ false → m < y.depth
      → HasDepthFault b r m (record { number = 21; at = y.offset }))
      (λ y k e l. record {
        directory = y.directory;
        listed = entry k.0 k.1.1.0;
        other = k.1.1.1;
        entry = e;
        names = y.depth;
        depth = k.1.0;
        deep = l;
        number = refl;
      }) (drop 1 (all_rows (references b r) f)) row_facts
