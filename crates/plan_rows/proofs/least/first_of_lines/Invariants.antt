use Rattle.std.proofs.Common.{◌≡◌, drop, List, ℕ}
use Rattle.manifest_layout.specs.Tests.{of_lines}
use Rattle.plan_rows.specs.Files.{IsOf}
use Rattle.formats.specs.Format.{format_of}
use Rattle.plan_rows.proofs.least.first_of_lines.Given as goal

abbrev pub invariant-loop-line : goal.invariant-loop-line
invariant-loop-line l = record {
  all : l.all ≡ l.m.lines;
  rest : (sizes : List ℕ) → IsOf l.m.lines sizes l.files
      → of_lines (format_of l.format) l.m sizes l.m.lines
      ≡ of_lines (format_of l.format) l.m sizes (drop l.line-index l.m.lines);
}
