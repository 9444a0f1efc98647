use Rattle.std.proofs.Common.{◌≡◌, drop}
use Rattle.build_commands.specs.Planned.{has_same}
use Rattle.build_commands.proofs.kept.has_same.Given as goal

abbrev pub invariant-loop-line : goal.invariant-loop-line
invariant-loop-line l = record {
  all : l.all ≡ l.manifest.lines;
  rest : has_same l.manifest.lines ≡ has_same (drop l.line-index l.manifest.lines);
}
