-- The faults of a cramfs image by phases, defined without a tree. `HasDepthFault`,
-- `HasExtentFault`, `HasNameFault`: the faults of the later phases. `HasNoFault`: no phase has one.
-- `IsLeastImageFault`: the least fault of an image. (The numbers and their order are this project's
-- own.)
--
-- These definitions know only offsets, references and extents. The faults of a phase count only if
-- the phases before it have none.
use Rattle.std.specs.Prelude.{◌≡◌, ◌≢◌, ℕ, ◌+◌, ◌-◌, ◌*◌, ◌<◌, max, min, true, List, IsTrue, ◌⊎◌}
use Rattle.rom_fields.specs.declared.span.Extent.TheVariants.{Super, List as ListOf, Table, Data}
use Rattle.rom_fields.specs.declared.span.Span.{Span}
use Rattle.rom_fields.specs.Extents.{Overlap}
use Rattle.record_forest.specs.declared.reference.Reference.{Reference}
use Rattle.rom_fields.specs.declared.fault.Fault.{Fault}
use Rattle.record_forest.specs.References.{Reached}
use Rattle.record_forest.specs.Faults.{TooMany, HasFault, Twice, InList, HasDepth, IsLeastFault}
use Rattle.record_forest.specs.Faults.{IsNone}
use Rattle.cramfs_format.specs.Order.{word}
use Rattle.cramfs_format.specs.declared.order.Order.{Order}
use Rattle.cramfs_format.specs.Inode.{name_of, end_of, size_of, type_of, offset_of, list_end}
use Rattle.cramfs_format.specs.Inode.{has_data, block_count, block_start, IsSound}
use Rattle.cramfs_format.specs.Refers.{references, LeadsToSound, LeadsToFault}
use Rattle.cramfs_format.specs.Tree.{precedes, is_sorted}
use Rattle.rom_tree.specs.Dots.{dot, dot_dot}
use Rattle.cramfs_format.specs.Superblock.{HasImageFault, accessible}
use Rattle.rom_fields.specs.FaultNumbers.{TOO_MANY, TWICE, TOO_DEEP, OVERLAP, DUPLICATE_NAME, DOT}
use Rattle.rom_fields.specs.FaultNumbers.{UNSORTED}

-- a valid record that a reference leads to
pub record IsReached (o : Order) (b : List ℕ) (p : ℕ) : Type 0 where
  pub reference : Reference
  pub reached : Reached (references o b) (LeadsToSound o b) reference
  pub place : reference.which ≡ p
  pub sound : LeadsToSound o b reference

-- the entry at p is in the list of the directory at d
pub record IsListed (o : Order) (b : List ℕ) (d p : ℕ) : Type 0 where
  pub reference : Reference
  pub listed : InList (references o b) (LeadsToSound o b) d reference
  pub place : reference.which ≡ p

-- the entry at q comes directly after the valid one at p in the list of the directory at d
pub record ComesNext (o : Order) (b : List ℕ) (d p q : ℕ) : Type 0 where
  pub listed : IsListed o b d p
  pub sound : IsSound o b (list_end o b d) p
  pub next : end_of o b p ≡ q
  pub inside : q < list_end o b d

-- the entry at q comes after that at p in the list of the directory at d
pub data ComesAfter (o : Order) (b : List ℕ) (d p : ℕ) : ℕ → Type 0 where
  next : {q : ℕ} → ComesNext o b d p q → ComesAfter o b d p q
  further : {q s : ℕ} → ComesAfter o b d p q → ComesNext o b d q s → ComesAfter o b d p s

-- 21 TooDeep at an entry that is more than `most` names below the root
pub record HasDepthFault (o : Order) (b : List ℕ) (most : ℕ) (e : Fault) : Type 0 where
  pub directory : ℕ
  pub listed : IsListed o b directory e.at
  pub not_dot : name_of o b e.at ≢ dot
  pub not_dot_dot : name_of o b e.at ≢ dot_dot
  pub names : ℕ
  pub depth : HasDepth (references o b) (LeadsToSound o b) e.at names
  pub deep : most < names
  pub number : e.number ≡ TOO_DEEP

-- the extents of the image: the superblock's, each directory's list, and the block pointers and
-- blocks of each file and link; none of them is empty
pub data IsExtent (o : Order) (b : List ℕ) (s : Span) : Type 0 where
  superblock : s ≡ record { kind = Super; start = 0; len = 76 } → IsExtent o b s
  list_of : {p : ℕ} → IsReached o b p → type_of o b p ≡ 4 → 0 < size_of o b p
      → s ≡ record { kind = ListOf; start = offset_of o b p; len = size_of o b p } → IsExtent o b s
  table_of : {p : ℕ} → IsReached o b p → IsTrue (has_data (type_of o b p)) → 0 < size_of o b p
      → s ≡ record { kind = Table; start = offset_of o b p; len = 4 * block_count (size_of o b p) }
      → IsExtent o b s
  block_of : {p i : ℕ} → IsReached o b p → IsTrue (has_data (type_of o b p))
      → i < block_count (size_of o b p)
      → s ≡ record {
        kind = Data;
        start = block_start (word o b (offset_of o b p + 4 * i));
        len = min 4096 (size_of o b p - 4096 * i);
      } → IsExtent o b s

-- 22 Overlap at the greater start of two extents that overlap
pub record HasExtentFault (o : Order) (b : List ℕ) (e : Fault) : Type 0 where
  pub one : Span
  pub other : Span
  pub differ : one ≢ other
  pub one_is : IsExtent o b one
  pub other_is : IsExtent o b other
  pub overlap : Overlap one other
  pub at : e.at ≡ max one.start other.start
  pub number : e.number ≡ OVERLAP

-- 23 DupName, 24 Dot, 26 Unsorted, at an entry of a list. Unsorted is at a name that sorts before
-- the name in front of it, and only if the superblock states that lists are sorted.
pub data HasNameFault (o : Order) (b : List ℕ) (e : Fault) : Type 0 where
  repeated : {d p : ℕ} → ComesAfter o b d p e.at → name_of o b p ≡ name_of o b e.at
      → e.number ≡ DUPLICATE_NAME
      → HasNameFault o b e
  dots : {d : ℕ} → IsListed o b d e.at → (name_of o b e.at ≡ dot) ⊎ (name_of o b e.at ≡ dot_dot)
      → e.number ≡ DOT
      → HasNameFault o b e
  unsorted : {d p : ℕ} → is_sorted o b ≡ true → ComesNext o b d p e.at
      → precedes (name_of o b e.at) (name_of o b p) ≡ true → e.number ≡ UNSORTED
      → HasNameFault o b e

-- 20 Twice at a record to which two references lead
abbrev pub HasTwiceFault : Order → List ℕ → Fault → Type 0
HasTwiceFault o b e = Twice (references o b) (LeadsToSound o b) e.at × (e.number ≡ TWICE)

-- there are more references than the limit
abbrev pub HasTooMany : Order → List ℕ → ℕ → Type 0
HasTooMany o b most = TooMany (references o b) (LeadsToSound o b) most

-- a reached record has this fault
abbrev pub HasReachedFault : Order → List ℕ → Fault → Type 0
HasReachedFault o b e = HasFault (references o b) (LeadsToSound o b) (LeadsToFault o b) e

-- No phase has a fault. A depth limit above 64 counts as 64.
pub record HasNoFault (o : Order) (bytes : List ℕ) (most deepest : ℕ) : Type 0 where
  pub image : IsNone (HasImageFault o bytes)
  pub few : HasTooMany o (accessible o bytes) most → ⊥
  pub sound : IsNone (HasReachedFault o (accessible o bytes))
  pub once : IsNone (HasTwiceFault o (accessible o bytes))
  pub shallow : IsNone (HasDepthFault o (accessible o bytes) (min deepest 64))
  pub apart : IsNone (HasExtentFault o (accessible o bytes))
  pub named : IsNone (HasNameFault o (accessible o bytes))

-- e is the least fault of the first phase, from records on, that has one; b are the accessible
-- bytes
pub data IsLeastPhaseFault (o : Order) (b : List ℕ) (deepest : ℕ) (e : Fault) : Type 0 where
  record_fault : IsLeastFault (HasReachedFault o b) e → IsLeastPhaseFault o b deepest e
  twice_fault : IsNone (HasReachedFault o b) → IsLeastFault (HasTwiceFault o b) e
      → IsLeastPhaseFault o b deepest e
  depth_fault : IsNone (HasReachedFault o b) → IsNone (HasTwiceFault o b)
      → IsLeastFault (HasDepthFault o b (min deepest 64)) e → IsLeastPhaseFault o b deepest e
  extent_fault : IsNone (HasReachedFault o b) → IsNone (HasTwiceFault o b)
      → IsNone (HasDepthFault o b (min deepest 64)) → IsLeastFault (HasExtentFault o b) e
      → IsLeastPhaseFault o b deepest e
  name_fault : IsNone (HasReachedFault o b) → IsNone (HasTwiceFault o b)
      → IsNone (HasDepthFault o b (min deepest 64))
      → IsNone (HasExtentFault o b) → IsLeastFault (HasNameFault o b) e
      → IsLeastPhaseFault o b deepest e

-- The least fault of an image: that of the image as a whole; otherwise 1 TooMany at 0; otherwise
-- that of the first later phase that has one.
pub data IsLeastImageFault (o : Order) (bytes : List ℕ) (most deepest : ℕ)
    (e : Fault) : Type 0 where
  whole : HasImageFault o bytes e → IsLeastImageFault o bytes most deepest e
  many : IsNone (HasImageFault o bytes) → HasTooMany o (accessible o bytes) most
      → e ≡ record { number = TOO_MANY; at = 0 } → IsLeastImageFault o bytes most deepest e
  phase : IsNone (HasImageFault o bytes) → (HasTooMany o (accessible o bytes) most → ⊥)
      → IsLeastPhaseFault o (accessible o bytes) deepest e
      → IsLeastImageFault o bytes most deepest e
