use Rattle.std.proofs.Common.{◌∷◌, [], take}
use Rattle.std.specs.List.{flat_map}
use Rattle.rom_fields.specs.Written.{Puts, sink}
use Rattle.image_extents.specs.Lines.{lines_by}
use Rattle.image_extents.proofs.lines.put_each.Given as goal

abbrev pub invariant-loop-number : goal.invariant-loop-number
invariant-loop-number g l = Puts (sink (g.W.ByteWrite.output l.fn.w) l.fn.failed)
    (sink (g.W.ByteWrite.output l.w) l.failed)
    (flat_map (λ y. lines_by l.base l.found l.at (y ∷ []) y) (take l.number l.run))
