-- `AddsFiles`: the extents of the files were added, and no others. An extent that files share may
-- be added only once. (This project's own.)
use Rattle.std.specs.Prelude.{◌≡◌, ℕ, ◌+◌, ◌-◌, ◌*◌, ◌/◌, ◌%◌, ◌<◌, ◌≤◌, ◌^◌, ◌==◌, max, true, List}
use Rattle.std.specs.Prelude.{[], ◌∷◌, ◌++◌, length, if◌then◌else◌}
use Rattle.std.specs.List.{All, Contains, AllByRecursion as Every}
use Rattle.rom_fields.specs.declared.span.Span.{Span}
use Rattle.rom_fields.specs.declared.span.Extent.TheVariants.{List as ListOf, Table, Data}
use Rattle.rom_fields.specs.Extents.{is_shareable, added}
use Rattle.record_forest.specs.declared.reference.Row.{Row}
use Rattle.record_forest.specs.Members.{Has}
use Rattle.cramfs_format.specs.Order.{word}
use Rattle.cramfs_format.specs.declared.order.Order.{Order}
use Rattle.cramfs_format.specs.Inode.{type_of, size_of, offset_of, has_data, block_count}
use Rattle.cramfs_format.specs.Inode.{block_start}
use Rattle.cramfs_format.specs.Tree.{data_from}
use Rattle.cramfs_image.specs.declared.overlap.File.{File}

-- the list of a directory
abbrev pub list_part : Order → List ℕ → Row → List Span
list_part o b x = if type_of o b x.offset == 4
    then added ListOf (offset_of o b x.offset) (size_of o b x.offset) else []

-- the row as a file or a link, if it is one
abbrev pub file_part : Order → List ℕ → Row → List File
file_part o b x = if has_data (type_of o b x.offset) then
    record { table = offset_of o b x.offset; size = size_of o b x.offset } ∷ [] else []

-- the extents of a file: its block pointers and its blocks
abbrev pub spans_of : Order → List ℕ → File → List Span
spans_of o b f = added Table f.table (4 * block_count f.size)
    ++ data_from o b (block_count f.size) f.table f.size

-- the block pointers of a file are among the bytes
pub record FileLies (o : Order) (b : List ℕ) (f : File) : Type 0 where
  pub aligned : f.table % 4 ≡ 0
  pub low : f.table < 2 ^ 28
  pub small : f.size < 2 ^ 24
  pub table : 0 < f.size → f.table + 4 * block_count f.size ≤ length b

-- the offset at which the pointers to whole blocks end
abbrev pub whole_end : ℕ → ℕ → ℕ
whole_end table size = table + 4 * (size / 4096)

-- whole blocks, by n pointers from q on
abbrev pub whole_blocks : Order → List ℕ → ℕ → ℕ → List Span
whole_blocks o b n q = data_from o b n q (4096 * n)

-- the extents that are added for a file, if the whole blocks of the pointers before `done` were
-- added
abbrev pub file_added : Order → List ℕ → ℕ → ℕ → ℕ → List Span
file_added o b table size done =
    added Table table (4 * block_count size)
    ++ (whole_blocks o b ((whole_end table size - max table done) / 4) (max table done)
    ++ added Data (block_start (word o b (whole_end table size))) (size % 4096))

-- the extents of the files were added, perhaps fewer times than the files have them
pub record AddsFiles (o : Order) (b : List ℕ) (files : List File)
    (old new : List Span) : Type 0 where
  pub more : List Span
  pub is : new ≡ old ++ more
  pub shareable : Every (λ (z : Span). is_shareable z.kind ≡ true) more
  pub into : Every (λ (z : Span). (f : File) × Contains files f
      × Has (λ (y : Span). y ≡ z) (spans_of o b f)) more
  pub back : All (λ (f : File). Every (λ (z : Span). Has (λ (y : Span). y ≡ z) more)
      (spans_of o b f)) files
