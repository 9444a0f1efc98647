use Rattle.std.proofs.Common.{◌≡◌, ◌++◌, List, ℕ, false, length}
use Rattle.std.specs.List.{flat_map}
use Rattle.rom_fields.specs.Written.{Puts, sink}
use Rattle.rom_tree.specs.Names.{names}
use Rattle.rom_tree.specs.Walks.{IsWalk, to_come}
use Rattle.image_check.specs.Any.{any_view}
use Rattle.program_report.specs.Findings.{AreFindings}
use Rattle.program_report.specs.Lines.{name_lines, tally_from, tally_of}
use Rattle.program_report.proofs.report.write_programs.Given as goal

-- `done` was put, and the lines of the names that are to come complete it; their totals as well
abbrev pub invariant-loop-failed : goal.invariant-loop-failed
invariant-loop-failed g l = record {
  findings : AreFindings l.image l.question l.findings;
  walk : IsWalk (any_view l.image) l.walk;
  done : List ℕ;
  puts : Puts (sink (g.W.ByteWrite.output l.fn.w) false) (sink (g.W.ByteWrite.output l.w) l.failed) done;
  rest : done ++ flat_map (name_lines l.image l.question) (to_come (any_view l.image) l.walk)
      ≡ flat_map (name_lines l.image l.question) (names (any_view l.image).tree);
  total : tally_from l.image l.question l.tally (to_come (any_view l.image) l.walk) ≡ tally_of l.image l.question;
}

abbrev pub decreases-loop-failed : goal.decreases-loop-failed
decreases-loop-failed g l = length (to_come (any_view l.image) l.walk)
