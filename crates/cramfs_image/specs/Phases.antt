-- `IsFaultAt`, `IsPointerFault`, `IsTooDeep`, `IsNameFault`, `IsLaterFault`: the faults that the
-- phases look for: those of one record and of its block pointers, and those of depth, extents and
-- names among the rows of a forest. `IsWhole`: a word is a block pointer, and its block of 4096
-- bytes lies in the image. (This project's own.)
use Rattle.std.specs.Borrow.{Bor}
use Rattle.std.specs.Prelude.{◌≡◌, ℕ, ◌+◌, ◌*◌, ◌<◌, ◌≤◌, ◌⊎◌, ◌==◌, Bool, true, false}
use Rattle.std.specs.Prelude.{if◌then◌else◌, List, [], ◌∷◌, ◌++◌, length, drop, Option, None, Some}
use Rattle.std.specs.Prelude.{IsSomeAnd}
use Rattle.std.specs.List.{Any}
use Rattle.rom_fields.specs.Extents.{OverlapsAt, IsLeastOf}
use Rattle.rom_fields.specs.declared.fault.Fault.{Fault}
use Rattle.record_forest.specs.declared.reference.Row.{Row}
use Rattle.record_forest.specs.Sweep.{IsLeastRowFault}
use Rattle.cramfs_format.specs.Order.{word}
use Rattle.cramfs_format.specs.declared.order.Order.{Order}
use Rattle.cramfs_format.specs.Inode.{type_of, size_of, name_of, is_kind, has_data, block_count}
use Rattle.cramfs_format.specs.Inode.{block_start, pointer_place, pointer_of, IsPlain, Lies}
use Rattle.cramfs_format.specs.Inode.{ListLies, TableLies, BlockLies, HasBody, IsName}
use Rattle.cramfs_format.specs.Tree.{precedes, is_sorted, extents_of, IsNoDot}
use Rattle.rom_fields.specs.FaultNumbers.{BOUNDS, BAD_NAME, KIND, LINK_SIZE, BLOCK_KIND, TOO_DEEP}
use Rattle.rom_fields.specs.FaultNumbers.{OVERLAP, DUPLICATE_NAME, DOT, UNSORTED}

-- the faults at the offset of the entry at p, which fits in its list: 11 Bounds, 13 BadName, 14
-- Kind, 15 LinkSize
pub data IsFaultAt (o : Order) (b : List ℕ) (p : ℕ) : ℕ → Type 0 where
  list_outside : {n : ℕ} → n ≡ BOUNDS → (ListLies o b p → ⊥) → IsFaultAt o b p n
  table_outside : {n : ℕ} → n ≡ BOUNDS → (TableLies o b p → ⊥) → IsFaultAt o b p n
  bad_name : {n : ℕ} → n ≡ BAD_NAME → (IsName (name_of o b p) → ⊥) → IsFaultAt o b p n
  other_kind : {n : ℕ} → n ≡ KIND → is_kind (type_of o b p) ≡ false → IsFaultAt o b p n
  link_size : {n : ℕ} → n ≡ LINK_SIZE → type_of o b p ≡ 10
      → (size_of o b p ≡ 0) ⊎ (4095 < size_of o b p)
      → IsFaultAt o b p n

-- the n-th word is a direct, uncompressed block pointer, and the 4096 bytes at its offset lie in
-- the image
abbrev pub IsWhole : Order → List ℕ → ℕ → Type 0
IsWhole o b n = IsPlain o b (word o b (4 * n)) × Lies b (block_start (word o b (4 * n))) 4096

-- the faults at the offsets of block pointers of the inode at p: 16 BlockKind, 11 Bounds
pub data IsPointerFault (o : Order) (b : List ℕ) (p : ℕ) (f : Fault) : Type 0 where
  other_block : (i : ℕ) → f ≡ record { number = BLOCK_KIND; at = pointer_place o b p i }
      → has_data (type_of o b p) ≡ true → TableLies o b p
      → i < block_count (size_of o b p) → (IsPlain o b (pointer_of o b p i) → ⊥)
      → IsPointerFault o b p f
  block_outside : (i : ℕ) → f ≡ record { number = BOUNDS; at = pointer_place o b p i }
      → has_data (type_of o b p) ≡ true → TableLies o b p
      → i < block_count (size_of o b p) → IsPlain o b (pointer_of o b p i) → (BlockLies o b p i → ⊥)
      → IsPointerFault o b p f

-- the parts of a record that can be read: it is among the bytes, and so is the body that it
-- describes
pub record IsRecord (o : Order) (b : List ℕ) (p : ℕ) : Type 0 where
  pub header : p + 12 ≤ length b
  pub body : HasBody o b p

-- 21 TooDeep: an entry deeper than the limit, of another name than `.` and `..`
abbrev pub IsTooDeep : Order → List ℕ → ℕ → List Row → Row → ℕ → Type 0
IsTooDeep o b most before x n = (n ≡ TOO_DEEP) × IsNoDot o b x × (most < x.depth)

abbrev pub IsShallow : Order → List ℕ → ℕ → List Row → Row → Type 0
IsShallow o b most before x = IsNoDot o b x → x.depth ≤ most

-- an earlier row of the same list has the same name
abbrev pub Repeats : Order → List ℕ → List Row → Row → Type 0
Repeats o b before x =
    Any (λ (y : Row). (y.directory ≡ x.directory)
    × (name_of o b y.offset ≡ name_of o b x.offset)) before

-- the name of the last of the rows that is in the list of this directory
abbrev pub last_name : Order → List ℕ → ℕ → Option (List ℕ) → List Row → Option (List ℕ)
last_name o b d noted [] = noted
last_name o b d noted (x ∷ xs) =
    last_name o b d (if x.directory == d then Some (name_of o b x.offset) else noted) xs

-- a name that was seen, if there is one
abbrev pub name_seen : Option (Bor (List ℕ)) → Option (List ℕ)
name_seen None = None
name_seen (Some x) = Some x.now

-- it sorts before the name of the row directly before it in its list, and lists are sorted
abbrev pub IsUnsorted : Order → List ℕ → List Row → Row → Type 0
IsUnsorted o b before x = (is_sorted o b ≡ true) × IsSomeAnd (last_name o b x.directory None before)
    (λ name. precedes (name_of o b x.offset) name ≡ true)

-- the facts about the rows before x: whether one of its list has its name, and the last name there
pub record FindsEarlier (o : Order) (b : List ℕ) (before : List Row) (x : Row) (repeated : Bool)
    (last : Option (Bor (List ℕ))) : Type 0 where
  pub old : repeated ≡ true → Repeats o b before x
  pub new : repeated ≡ false → Repeats o b before x → ⊥
  pub last_is : name_seen last ≡ last_name o b x.directory None before

-- 23 DupName, 24 Dot, 26 Unsorted
pub data IsNameFault (o : Order) (b : List ℕ) (before : List Row) (x : Row) : ℕ → Type 0 where
  repeated : {n : ℕ} → n ≡ DUPLICATE_NAME → Repeats o b before x → IsNameFault o b before x n
  dots : {n : ℕ} → n ≡ DOT → (IsNoDot o b x → ⊥) → IsNameFault o b before x n
  unsorted : {n : ℕ} → n ≡ UNSORTED → IsUnsorted o b before x → IsNameFault o b before x n

pub record IsWellNamed (o : Order) (b : List ℕ) (before : List Row) (x : Row) : Type 0 where
  pub fresh : Repeats o b before x → ⊥
  pub other : IsNoDot o b x
  pub sorted : IsUnsorted o b before x → ⊥

-- no entry is too deep, nothing overlaps, and each name is valid in its list; the root's row is the
-- first
pub record AreWell (o : Order) (b : List ℕ) (most : ℕ) (all : List Row) : Type 0 where
  pub shallow : (before : List Row) (x : Row) (after : List Row) → drop 1 all ≡ before ++ x ∷ after
      → IsShallow o b most before x
  pub apart : (p : ℕ) → OverlapsAt (extents_of o b all) p → ⊥
  pub named : (before : List Row) (x : Row) (after : List Row) → drop 1 all ≡ before ++ x ∷ after
      → IsWellNamed o b before x

-- the least fault of the first of these phases that has one
pub data IsLaterFault (o : Order) (b : List ℕ) (most : ℕ) (all : List Row)
    (e : Fault) : Type 0 where
  of_depth : IsLeastRowFault (IsShallow o b most) (IsTooDeep o b most) (drop 1 all) (Some e)
      → IsLaterFault o b most all e
  of_overlap : IsLeastRowFault (IsShallow o b most) (IsTooDeep o b most) (drop 1 all) None → {p : ℕ}
      → IsLeastOf (OverlapsAt (extents_of o b all)) (Some p)
      → e ≡ record { number = OVERLAP; at = p }
      → IsLaterFault o b most all e
  of_name : IsLeastRowFault (IsShallow o b most) (IsTooDeep o b most) (drop 1 all) None
      → IsLeastOf (OverlapsAt (extents_of o b all)) None
      → IsLeastRowFault (IsWellNamed o b) (IsNameFault o b) (drop 1 all) (Some e)
      → IsLaterFault o b most all e
