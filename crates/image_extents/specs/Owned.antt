-- Which bytes of which file data are: `HasBytes`. (This project's own.)
use Rattle.std.specs.Prelude.{◌≡◌, ◌↔◌, ℕ, Option, Some, slice_get}
use Rattle.std.specs.List.{All, Contains}
use Rattle.rom_tree.specs.declared.types.Run.{Run}
use Rattle.rom_tree.specs.Image.{IsRun}
use Rattle.rom_tree.specs.Names.{Name, names}
use Rattle.rom_tree.specs.Tree.{Node, places_of}
use Rattle.image_extents.specs.Lines.{owned, owners}
use Rattle.image_extents.specs.Listed.{path_of}
use Rattle.image_extents.specs.Tables.{table_by}
use Rattle.image_extents.specs.declared.extent.Extent.{Extent}
use Rattle.image_extents.specs.declared.extent.Extents.{Extents}
use Rattle.image_extents.specs.declared.extent.Record.{Record}
use Rattle.image_extents.specs.declared.extent.Kind.TheVariants.{Data}

-- the bytes of an extent, one after the other
abbrev pub run_of : Extent → Run
run_of x = record { place = x.start; len = x.len }

-- The path of the extent's record is the path of a name of the tree. The bytes of the extent are
-- those of this name's file or link, from its byte `offset` on.
pub record HasBytes (t : Node) (e : Extents) (x : Extent) : Type 0 where
  pub name : Name
  pub named : Contains (names t) name
  pub path : path_of e.bytes.now e.records.items x.owner ≡ name.path
  pub run : IsRun (places_of name.node) x.offset (run_of x)

-- all extents of data are so, for each record that has the bytes
abbrev pub AreOfFiles : Node → Extents → Type 0
AreOfFiles t e = All (λ (x : Extent). x.kind ≡ Data
    → All (λ (i : ℕ). HasBytes t e (owned x i)) (owners e x)) e.extents.items

-- the block pointers of the record of a number, if there is one
abbrev pub table_at : (Record → Option (ℕ × ℕ)) → Extents → ℕ → Option (ℕ × ℕ)
table_at table e i = table_by table (slice_get e.records.items i)

-- If an extent's record has block pointers, the records that have the bytes of the extent are those
-- with these block pointers.
abbrev pub HasOwners : (Record → Option (ℕ × ℕ)) → Extents → Extent → Type 0
HasOwners table e x = (t : ℕ × ℕ) → table_at table e x.owner ≡ Some t
    → (i : ℕ) → Contains (owners e x) i ↔ (table_at table e i ≡ Some t)
