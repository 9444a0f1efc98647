-- `blocks_so_far`: the extents of a list and of a run, with each run as its blocks. (This project's
-- own.)
use Rattle.std.specs.Prelude.{◌/◌, List, ◌++◌}
use Rattle.rom_fields.specs.declared.span.Span.{Span}
use Rattle.cramfs_image.specs.declared.overlap.Run.{Run}
use Rattle.cramfs_image.specs.Merged.{blocks, expanded}

abbrev pub blocks_so_far : List Span → Run → List Span
blocks_so_far es r = expanded es ++ blocks (r.len / 4096) r.start
