use Rattle.std.proofs.Common.{◌≡◌, ◌++◌, List, ℕ, false, length}
use Rattle.std.specs.List.{flat_map}
use Rattle.rom_fields.specs.Written.{Puts, sink}
use Rattle.rom_tree.specs.Walks.{IsWalk, to_come}
use Rattle.image_check.specs.Any.{any_view}
use Rattle.linux_misreads.specs.Misreads.{is_printed, name_misreads, misreads_text}
use Rattle.linux_misreads.proofs.printing.misreads.Given as goal

-- `done` was put, and the lines of the names that are to come complete it
abbrev pub invariant-loop-failed : goal.invariant-loop-failed
invariant-loop-failed g l = record {
  walk : IsWalk (any_view l.image) l.walk;
  done : List ℕ;
  puts : Puts (sink (g.W.ByteWrite.output l.fn.w) false) (sink (g.W.ByteWrite.output l.w) l.failed) done;
  printed : l.printed ≡ is_printed done;
  rest : done ++ flat_map (name_misreads l.image) (to_come (any_view l.image) l.walk) ≡ misreads_text l.image;
}

abbrev pub decreases-loop-failed : goal.decreases-loop-failed
decreases-loop-failed g l = length (to_come (any_view l.image) l.walk)
