use Rattle.std.proofs.Common.{◌≡◌, ◌++◌, List, ℕ, false, length}
use Rattle.std.specs.List.{flat_map}
use Rattle.rom_fields.specs.Written.{Puts, sink}
use Rattle.rom_tree.specs.Walks.{IsWalk, to_come}
use Rattle.image_info.specs.Map.{name_lines, map_text}
use Rattle.image_info.proofs.mapping.map.Given as goal

-- `done` was put, and the lines of the names that are to come complete it
abbrev pub invariant-loop-failed : goal.invariant-loop-failed
invariant-loop-failed g l = record {
  walk : IsWalk (g.T.Viewed.image l.image) l.walk;
  done : List ℕ;
  puts : Puts (sink (g.W.ByteWrite.output l.fn.w) false) (sink (g.W.ByteWrite.output l.w) l.failed) done;
  rest : done ++ flat_map (name_lines l.base) (to_come (g.T.Viewed.image l.image) l.walk)
      ≡ map_text l.base (g.T.Viewed.image l.image).tree;
}

abbrev pub decreases-loop-failed : goal.decreases-loop-failed
decreases-loop-failed g l = length (to_come (g.T.Viewed.image l.image) l.walk)
