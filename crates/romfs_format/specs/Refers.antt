-- `references`: the references in romfs. The superblock refers to the root. The field `spec` of a
-- directory refers to the first record of its list, and the field `next` of a record to the next
-- record. A hard link's target is no reference. (Linux Documentation/filesystems/romfs.rst.)
use Rattle.std.specs.Prelude.{◌≡◌, ℕ, Bool, true, if◌then◌else◌, ◌==◌, Option, None, Some, List}
use Rattle.record_forest.specs.declared.reference.Reference.{Reference}
use Rattle.record_forest.specs.References.{References}
use Rattle.romfs_format.specs.Record.{next_of, first_of, IsSound, HasRecordFault}
use Rattle.rom_fields.specs.declared.fault.Fault.{Fault}

-- the root is the first record of its own list, as genromfs writes it
unfoldable pub heads_itself : List ℕ → ℕ → Bool
heads_itself b r = first_of b r == r

-- the offset at which the list of the record at p begins, by a reference; if the root is the first
-- record of its own list, that is no reference
unfoldable pub list_of : List ℕ → ℕ → ℕ → ℕ
list_of b r p = if p == r then (if heads_itself b r then 0 else first_of b r) else first_of b p

-- the record after that at p; the root's next counts only if the root is the first of its own list
unfoldable pub following : List ℕ → ℕ → ℕ → ℕ
following b r p = if p == r then (if heads_itself b r then next_of b r else 0) else next_of b p

-- the offset to which a reference leads, or 0 if it leads to no record: for the superblock's
-- (source 0) the root, for a record's first (which 0) its list, and for its other the next record
unfoldable pub reference_offset : List ℕ → ℕ → Reference → ℕ
reference_offset b r x =
    if x.source == 0 then r else
    (if x.which == 0 then list_of b r x.source else following b r x.source)

abbrev pub some_offset : ℕ → Option ℕ
some_offset q = if q == 0 then None else Some q

-- the references of the image whose accessible bytes are b and whose root is at r
abbrev pub references : List ℕ → ℕ → References
references b r = record {
  top = record { source = 0; which = 0 };
  target = λ x. some_offset (reference_offset b r x);
  own = λ x. record { source = reference_offset b r x; which = 0 };
  after = λ x. record { source = reference_offset b r x; which = 1 };
  chained = true;
}

-- the reference leads to a valid record
abbrev pub LeadsToSound : List ℕ → ℕ → Reference → Type 0
LeadsToSound b r x = IsSound b r (reference_offset b r x)

-- the record that it leads to has this fault, at the record's offset
pub record LeadsToFault (b : List ℕ) (r : ℕ) (x : Reference) (e : Fault) : Type 0 where
  pub at : e.at ≡ reference_offset b r x
  pub number : HasRecordFault b r (reference_offset b r x) e.number
