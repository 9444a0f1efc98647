-- `references`: the references in cramfs. `LeadsToSound`, `LeadsToFault`: the record to which a
-- reference leads is valid, or has a fault. (Linux Documentation/filesystems/cramfs.rst.)
--
-- The superblock refers to the root, and a directory to each entry of its list. The entries follow
-- one another from the list's start to its end. A reference is the pair of the two offsets.
use Rattle.std.specs.Prelude.{◌≡◌, ◌≢◌, ℕ, false, if◌then◌else◌, ◌==◌, nat_lt, Option, None, Some}
use Rattle.std.specs.Prelude.{List}
use Rattle.record_forest.specs.declared.reference.Reference.{Reference}
use Rattle.rom_fields.specs.declared.fault.Fault.{Fault}
use Rattle.record_forest.specs.References.{References}
use Rattle.cramfs_format.specs.declared.order.Order.{Order}
use Rattle.cramfs_format.specs.Inode.{end_of, list_start, list_end, IsSound, ListLies}
use Rattle.cramfs_format.specs.Inode.{HasEntryFault}
use Rattle.rom_fields.specs.FaultNumbers.{BOUNDS}

-- the root's inode is in the superblock
abbrev pub root_place : ℕ
root_place = 64

-- An entry of the directory `source` is at `which`, before the end of its list. No record is at 0;
-- as a source, 0 is the superblock.
unfoldable pub reference_target : Order → List ℕ → Reference → Option ℕ
reference_target o b x =
    if x.source == 0 then (if x.which == root_place then Some root_place else None)
    else (if nat_lt x.which (list_end o b x.source) then Some x.which else None)

-- the references of the image whose accessible bytes are b
abbrev pub references : Order → List ℕ → References
references o b = record {
  top = record { source = 0; which = root_place };
  target = reference_target o b;
  own = λ x. record { source = x.which; which = list_start o b x.which };
  after = λ x. record { source = x.source; which = end_of o b x.which };
  chained = false;
}

-- the record that x leads to is valid: the root, or an entry that fits in the list that it is in
pub record LeadsToSound (o : Order) (b : List ℕ) (x : Reference) : Type 0 where
  pub root : x.source ≡ 0 → ListLies o b x.which
  pub entry : x.source ≢ 0 → IsSound o b (list_end o b x.source) x.which

-- the record that x leads to has this fault; the root, a directory, can have only one, a list that
-- is not where it may be
pub data LeadsToFault (o : Order) (b : List ℕ) (x : Reference) (f : Fault) : Type 0 where
  root_list : x.source ≡ 0 → f ≡ record { number = BOUNDS; at = x.which }
      → (ListLies o b x.which → ⊥)
      → LeadsToFault o b x f
  of_entry : x.source ≢ 0 → HasEntryFault o b (list_end o b x.source) x.which f
      → LeadsToFault o b x f
