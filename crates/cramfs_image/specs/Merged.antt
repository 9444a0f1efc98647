-- `expanded`: a list of extents with each run of whole blocks as its blocks. `Conflict`: two
-- extents overlap, and are not runs whose blocks are the same or apart. (This project's own.)
use Rattle.std.specs.Prelude.{◌≡◌, ℕ, zero, suc, ◌+◌, ◌%◌, ◌/◌, ◌==◌, max, Bool, true, false, List}
use Rattle.std.specs.Prelude.{[], ◌∷◌, ◌++◌, ◌⊎◌, if◌then◌else◌}
use Rattle.std.specs.List.{flat_map}
use Rattle.rom_fields.specs.declared.span.Extent.{Extent}
use Rattle.rom_fields.specs.declared.span.Extent.TheVariants.{Super, Record, List as ListOf, Table}
use Rattle.rom_fields.specs.declared.span.Extent.TheVariants.{Data}
use Rattle.rom_fields.specs.declared.span.Span.{Span}
use Rattle.rom_fields.specs.Extents.{Overlap}
use Rattle.record_forest.specs.Members.{Has}

abbrev pub is_data : Extent → Bool
is_data Super = false
is_data Record = false
is_data ListOf = false
is_data Table = false
is_data Data = true

-- contents that are whole blocks, one after the other
abbrev pub is_run : Span → Bool
is_run x = if is_data x.kind then x.len % 4096 == 0 else false

-- the whole block at an offset
abbrev pub whole_block : ℕ → Span
whole_block s = record { kind = Data; start = s; len = 4096 }

-- n whole blocks from s on
abbrev pub blocks : ℕ → ℕ → List Span
blocks zero s = []
blocks (suc n) s = whole_block s ∷ blocks n (s + 4096)

-- the blocks of a run; any other extent stays as it is
abbrev pub blocks_in : Span → List Span
blocks_in x = if is_run x then blocks (x.len / 4096) x.start else x ∷ []

-- with the blocks of each run
abbrev pub expanded : List Span → List Span
expanded xs = flat_map blocks_in xs

pub record IsRun (x : Span) : Type 0 where
  pub data_kind : x.kind ≡ Data
  pub whole : x.len % 4096 ≡ 0

-- both are runs, and each two of their blocks are the same block or have no common byte
pub record AreInStep (x y : Span) : Type 0 where
  pub one : IsRun x
  pub other : IsRun y
  pub step : x.start % 4096 ≡ y.start % 4096

-- two blocks of these overlap
abbrev pub Conflict : Span → Span → Type 0
Conflict x y = Overlap x y × (AreInStep x y → ⊥)

-- they do, first at the greater of the two starts
abbrev pub Clash : ℕ → Span → Span → Type 0
Clash p x y = Conflict x y × (p ≡ max x.start y.start)

-- two of the extents do
abbrev pub ConflictsAt : List Span → ℕ → Type 0
ConflictsAt [] p = ⊥
ConflictsAt (x ∷ xs) p = Has (Clash p x) xs ⊎ ConflictsAt xs p
