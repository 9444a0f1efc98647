-- The faults of a romfs image by phases, defined without a tree. `HasDepthFault`, `HasExtentFault`,
-- `HasNameFault`: the faults of the later phases. `HasNoFault`: no phase has one.
-- `IsLeastImageFault`: the least fault of an image. (The numbers and their order are this project's
-- own.)
--
-- These definitions know only offsets, references and extents. The faults of a phase count only if
-- the phases before it have none.
use Rattle.std.specs.Prelude.{◌≡◌, ◌≢◌, ℕ, suc, ◌-◌, ◌<◌, max, min, true, false, List, IsTrue}
use Rattle.rom_fields.specs.declared.span.Extent.TheVariants.{Super, Record, Data}
use Rattle.rom_fields.specs.declared.span.Span.{Span}
use Rattle.rom_fields.specs.Extents.{Overlap}
use Rattle.record_forest.specs.declared.reference.Reference.{Reference}
use Rattle.rom_fields.specs.declared.fault.Fault.{Fault}
use Rattle.record_forest.specs.References.{Reached}
use Rattle.record_forest.specs.Faults.{TooMany, HasFault, Twice, InList, HasDepth, IsLeastFault}
use Rattle.record_forest.specs.Faults.{IsNone}
use Rattle.romfs_format.specs.Record.{name_of, end_of, size_of, type_of, spec_offset_of, has_data}
use Rattle.romfs_format.specs.Record.{IsSound}
use Rattle.romfs_format.specs.Refers.{references, reference_offset, following, heads_itself}
use Rattle.romfs_format.specs.Refers.{LeadsToSound, LeadsToFault}
use Rattle.romfs_format.specs.Tree.{root_of}
use Rattle.rom_tree.specs.Dots.{dot, dot_dot, is_dots}
use Rattle.romfs_format.specs.Superblock.{HasImageFault, accessible}
use Rattle.rom_fields.specs.FaultNumbers.{TOO_MANY, TWICE, TOO_DEEP, OVERLAP, DUPLICATE_NAME, DOT}
use Rattle.rom_fields.specs.FaultNumbers.{HARD_LINK}

-- a valid record that a reference leads to
pub record IsReached (b : List ℕ) (r p : ℕ) : Type 0 where
  pub reference : Reference
  pub reached : Reached (references b r) (LeadsToSound b r) reference
  pub offset : reference_offset b r reference ≡ p
  pub sound : IsSound b r p

-- the record at p is in the list of the directory at d; so is the root if it is the first record of
-- its own list
pub data IsListed (b : List ℕ) (r : ℕ) : ℕ → ℕ → Type 0 where
  entry : {d p : ℕ} {x : Reference} → InList (references b r) (LeadsToSound b r) d x
      → reference_offset b r x ≡ p
      → IsListed b r d p
  itself : {d p : ℕ} → heads_itself b r ≡ true → d ≡ r → p ≡ r → IsListed b r d p

-- q comes after p in the list of the directory at d
pub data ComesAfter (b : List ℕ) (r d p : ℕ) : ℕ → Type 0 where
  next : {q : ℕ} → IsListed b r d p → IsSound b r p → following b r p ≡ q → q ≢ 0
      → ComesAfter b r d p q
  further : {q s : ℕ} → ComesAfter b r d p q → IsSound b r q → following b r q ≡ s → s ≢ 0
      → ComesAfter b r d p s

-- following the record at p leads to q: over at most n hard links, each to a reached record
pub data Leads (b : List ℕ) (r : ℕ) : ℕ → ℕ → ℕ → Type 0 where
  here : {n p : ℕ} → type_of b p ≢ 0 → Leads b r n p p
  link : {n p q : ℕ} → type_of b p ≡ 0 → IsReached b r (spec_offset_of b p)
      → Leads b r n (spec_offset_of b p) q
      → Leads b r (suc n) p q

-- 21 TooDeep at an entry that is more than `most` names below the root
pub record HasDepthFault (b : List ℕ) (r most : ℕ) (e : Fault) : Type 0 where
  pub directory : ℕ
  pub listed : IsListed b r directory e.at
  pub other : e.at ≢ r
  pub entry : is_dots (name_of b e.at) ≡ false
  pub names : ℕ
  pub depth : HasDepth (references b r) (LeadsToSound b r) e.at names
  pub deep : most < names
  pub number : e.number ≡ TOO_DEEP

-- the extents of the image: the superblock's, each reached record's, and the data of each file and
-- link; none of them is empty
pub data IsExtent (b : List ℕ) (r : ℕ) (s : Span) : Type 0 where
  superblock : s ≡ record { kind = Super; start = 0; len = r } → IsExtent b r s
  record_at : {p : ℕ} → IsReached b r p
      → s ≡ record { kind = Record; start = p; len = end_of b p - p } → IsExtent b r s
  data_of : {p : ℕ} → IsReached b r p → IsTrue (has_data (type_of b p)) → 0 < size_of b p
      → s ≡ record { kind = Data; start = end_of b p; len = size_of b p } → IsExtent b r s

-- 22 Overlap at the greater start of two extents that overlap
pub record HasExtentFault (b : List ℕ) (r : ℕ) (e : Fault) : Type 0 where
  pub one : Span
  pub other : Span
  pub differ : one ≢ other
  pub one_is : IsExtent b r one
  pub other_is : IsExtent b r other
  pub overlap : Overlap one other
  pub at : e.at ≡ max one.start other.start
  pub number : e.number ≡ OVERLAP

-- u is the directory that has the directory d in its list; for the root, u is the root
pub data IsParent (b : List ℕ) (r : ℕ) : ℕ → ℕ → Type 0 where
  of_root : {d u : ℕ} → d ≡ r → u ≡ r → IsParent b r d u
  of_other : {d u : ℕ} → d ≢ r → IsListed b r u d → IsParent b r d u

-- 23 DupName, 24 Dot, 25 HardLink, at a record of the list of d; for DupName, p is before it
pub data HasNameFault (b : List ℕ) (r : ℕ) (e : Fault) : Type 0 where
  repeated : {d p : ℕ} → ComesAfter b r d p e.at → name_of b p ≡ name_of b e.at
      → e.number ≡ DUPLICATE_NAME
      → HasNameFault b r e
  here_astray : {d : ℕ} → IsListed b r d e.at → name_of b e.at ≡ dot → (Leads b r 8 e.at d → ⊥)
      → e.number ≡ DOT
      → HasNameFault b r e
  above_astray : {d u : ℕ} → IsListed b r d e.at → IsParent b r d u → name_of b e.at ≡ dot_dot
      → (Leads b r 8 e.at u → ⊥) → e.number ≡ DOT → HasNameFault b r e
  root_renamed : heads_itself b r ≡ true → e.at ≡ r → name_of b r ≢ dot → e.number ≡ DOT
      → HasNameFault b r e
  link_astray : {d : ℕ} → IsListed b r d e.at → is_dots (name_of b e.at) ≡ false
      → type_of b e.at ≡ 0
      → ((q : ℕ) → Leads b r 8 e.at q → type_of b q ≢ 1 → ⊥) → e.number ≡ HARD_LINK
      → HasNameFault b r e

-- 20 Twice at a record to which two references lead
abbrev pub HasTwiceFault : List ℕ → ℕ → Fault → Type 0
HasTwiceFault b r e = Twice (references b r) (LeadsToSound b r) e.at × (e.number ≡ TWICE)

-- there are more references than the limit
abbrev pub HasTooMany : List ℕ → ℕ → ℕ → Type 0
HasTooMany b r most = TooMany (references b r) (LeadsToSound b r) most

-- a reached record has this fault
abbrev pub HasReachedFault : List ℕ → ℕ → Fault → Type 0
HasReachedFault b r e = HasFault (references b r) (LeadsToSound b r) (LeadsToFault b r) e

-- No phase has a fault. A depth limit above 64 counts as 64.
pub record HasNoFault (bytes : List ℕ) (most deepest : ℕ) : Type 0 where
  pub image : IsNone (HasImageFault bytes)
  pub few : HasTooMany (accessible bytes) (root_of (accessible bytes)) most → ⊥
  pub sound : IsNone (HasReachedFault (accessible bytes) (root_of (accessible bytes)))
  pub once : IsNone (HasTwiceFault (accessible bytes) (root_of (accessible bytes)))
  pub shallow : IsNone (HasDepthFault (accessible bytes) (root_of (accessible bytes))
      (min deepest 64))
  pub apart : IsNone (HasExtentFault (accessible bytes) (root_of (accessible bytes)))
  pub named : IsNone (HasNameFault (accessible bytes) (root_of (accessible bytes)))

-- e is the least fault of the first phase, from records on, that has one; b are the accessible
-- bytes and r is the root
pub data IsLeastPhaseFault (b : List ℕ) (r deepest : ℕ) (e : Fault) : Type 0 where
  record_fault : IsLeastFault (HasReachedFault b r) e → IsLeastPhaseFault b r deepest e
  twice_fault : IsNone (HasReachedFault b r) → IsLeastFault (HasTwiceFault b r) e
      → IsLeastPhaseFault b r deepest e
  depth_fault : IsNone (HasReachedFault b r) → IsNone (HasTwiceFault b r)
      → IsLeastFault (HasDepthFault b r (min deepest 64)) e → IsLeastPhaseFault b r deepest e
  extent_fault : IsNone (HasReachedFault b r) → IsNone (HasTwiceFault b r)
      → IsNone (HasDepthFault b r (min deepest 64)) → IsLeastFault (HasExtentFault b r) e
      → IsLeastPhaseFault b r deepest e
  name_fault : IsNone (HasReachedFault b r) → IsNone (HasTwiceFault b r)
      → IsNone (HasDepthFault b r (min deepest 64))
      → IsNone (HasExtentFault b r) → IsLeastFault (HasNameFault b r) e
      → IsLeastPhaseFault b r deepest e

-- The least fault of an image: that of the image as a whole; otherwise 1 TooMany at 0; otherwise
-- that of the first later phase that has one.
pub data IsLeastImageFault (bytes : List ℕ) (most deepest : ℕ) (e : Fault) : Type 0 where
  whole : HasImageFault bytes e → IsLeastImageFault bytes most deepest e
  many : IsNone (HasImageFault bytes)
      → HasTooMany (accessible bytes) (root_of (accessible bytes)) most
      → e ≡ record { number = TOO_MANY; at = 0 } → IsLeastImageFault bytes most deepest e
  phase : IsNone (HasImageFault bytes)
      → (HasTooMany (accessible bytes) (root_of (accessible bytes)) most → ⊥)
      → IsLeastPhaseFault (accessible bytes) (root_of (accessible bytes)) deepest e
      → IsLeastImageFault bytes most deepest e
