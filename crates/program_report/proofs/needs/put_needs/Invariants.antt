use Rattle.std.proofs.Common.{◌≡◌, not, take}
use Rattle.rom_fields.specs.Texts.{escaped}
use Rattle.rom_fields.specs.Written.{Puts, sink}
use Rattle.rom_tree.specs.Walks.{given_path}
use Rattle.path_walk.specs.Components.{is_empty}
use Rattle.program_report.specs.Needs.{missing, need_lines}
use Rattle.program_report.proofs.needs.put_needs.Given as goal

-- the lines of the indices so far were put
abbrev pub invariant-loop-index : goal.invariant-loop-index
invariant-loop-index g l = record {
  image : g.T.Viewed.image l.image ≡ g.T.Viewed.image l.fn.image;
  puts : Puts (sink (g.W.ByteWrite.output l.fn.w) l.fn.failed) (sink (g.W.ByteWrite.output l.w) l.failed)
      (need_lines (escaped (given_path l.walk)) (take l.index (missing (g.T.Viewed.image l.fn.image) l.needs)));
  some : l.some ≡ not (is_empty (need_lines (escaped (given_path l.walk))
      (take l.index (missing (g.T.Viewed.image l.fn.image) l.needs))));
}
