use Rattle.std.proofs.Common.{◌≡◌, ◌++◌, List, ℕ, false, length, not}
use Rattle.rom_fields.specs.Written.{Puts, sink}
use Rattle.rom_tree.specs.Walks.{IsWalk, to_come}
use Rattle.path_walk.specs.Components.{is_empty}
use Rattle.program_report.specs.Needs.{needs_from, needs_text}
use Rattle.program_report.proofs.needs.write_needs.Given as goal

-- `done` was put, and the lines of the names that are to come complete it
abbrev pub invariant-loop-failed : goal.invariant-loop-failed
invariant-loop-failed g l = record {
  image : g.T.Viewed.image l.image ≡ g.T.Viewed.image l.fn.image;
  walk : IsWalk (g.T.Viewed.image l.fn.image) l.walk;
  done : List ℕ;
  puts : Puts (sink (g.W.ByteWrite.output l.fn.w) false) (sink (g.W.ByteWrite.output l.w) l.failed) done;
  rest : done ++ needs_from (g.T.Viewed.image l.fn.image) l.effort.longest l.effort.left
      (to_come (g.T.Viewed.image l.fn.image) l.walk) ≡ needs_text (g.T.Viewed.image l.fn.image);
  warns : l.warns ≡ not (is_empty done);
}

abbrev pub decreases-loop-failed : goal.decreases-loop-failed
decreases-loop-failed g l = length (to_come (g.T.Viewed.image l.fn.image) l.walk)
