use Rattle.std.proofs.Common.{◌≡◌, take, reverse, length}
use Rattle.manifest.specs.Lines.{sources_of}
use Rattle.plan_rows.specs.Files.{Knows}
use Rattle.plan_rows.proofs.files.PathTargets.new.Given as goal

abbrev pub invariant-loop-line : goal.invariant-loop-line
invariant-loop-line l = record {
  all : l.all ≡ l.m.lines;
  knows : Knows l.m.lines l.sizes (reverse (take l.line-index l.all)) l.paths;
  index : l.index ≡ l.line-index;
  source : l.source ≡ length (sources_of (take l.line-index l.all));
}
