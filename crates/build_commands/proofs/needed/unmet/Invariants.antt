use Rattle.std.proofs.Common.{◌≡◌, map, take}
use Rattle.program_report.specs.Needs.{missing}
use Rattle.build_commands.specs.Needed.{those_there}
use Rattle.build_commands.proofs.needed.unmet.Given as goal

abbrev pub invariant-loop-index : goal.invariant-loop-index
invariant-loop-index g l = record {
  same : g.T.Viewed.image l.image ≡ g.T.Viewed.image l.fn.image;
  found : map (λ n. n.now) l.unmet.items
      ≡ those_there (take l.index (missing (g.T.Viewed.image l.fn.image) l.fn.needs));
}
