use Rattle.std.proofs.Common.{◌≡◌, ◌++◌, map, drop, List, ℕ}
use Rattle.plan_rows.specs.Files.{IsOf}
use Rattle.plan_rows.specs.Misfits.{misfit_fault, misfits_of}
use Rattle.formats.specs.Format.{format_of}
use Rattle.plan_rows.proofs.least.misfits.Given as goal

abbrev pub invariant-loop-line : goal.invariant-loop-line
invariant-loop-line l = record {
  all : l.all ≡ l.m.lines;
  rest : (sizes : List ℕ) → IsOf l.m.lines sizes l.files
      → map misfit_fault l.found.items ++ misfits_of (format_of l.format) l.m sizes (drop l.line-index l.m.lines)
      ≡ misfits_of (format_of l.format) l.m sizes l.m.lines;
}
