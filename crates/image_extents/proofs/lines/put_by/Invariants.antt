use Rattle.std.proofs.Common.{◌≡◌, ◌++◌, ◌-◌, ℕ, List, Some, length}
use Rattle.std.specs.List.{flat_map}
use Rattle.rom_fields.specs.Written.{Puts, sink}
use Rattle.image_extents.specs.Lines.{lines_as}
use Rattle.image_extents.specs.Tables.{led}
use Rattle.image_extents.proofs.lines.put_by.Given as goal

-- the lines for some records were put, and those for the others are still to come
abbrev pub invariant-loop : goal.invariant-loop
invariant-loop g l = (done : List ℕ)
    × Puts (sink (g.W.ByteWrite.output l.fn.w) l.fn.failed) (sink (g.W.ByteWrite.output l.w) l.failed)
    (flat_map (lines_as l.base l.found l.at l.run) done)
    × (led l.found.next.items (length l.found.records.items) (Some l.first)
    ≡ done ++ led l.found.next.items (length l.found.records.items - l.counter) l.owner)
