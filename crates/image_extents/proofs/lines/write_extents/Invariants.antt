use Rattle.std.proofs.Common.{◌≡◌, None, false, take}
use Rattle.rom_fields.specs.Written.{Puts, sink}
use Rattle.image_extents.specs.Lines.{lines_from, reach_after}
use Rattle.image_extents.proofs.Texts.{before_after}
use Rattle.image_extents.proofs.lines.write_extents.Given as goal

-- the lines of the extents so far were put, where the last of them ends, and where it begins
abbrev pub invariant-loop-x : goal.invariant-loop-x
invariant-loop-x g l = record {
  puts : Puts (sink (g.W.ByteWrite.output l.fn.w) false) (sink (g.W.ByteWrite.output l.w) l.failed)
      (lines_from l.base l.found 0 None (take l.x-index l.found.extents.items));
  reach : l.reach ≡ reach_after 0 (take l.x-index l.found.extents.items);
  before : l.before ≡ before_after None (take l.x-index l.found.extents.items);
}
