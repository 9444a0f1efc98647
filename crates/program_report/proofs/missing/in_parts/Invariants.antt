use Rattle.std.proofs.Common.{◌≡◌, length}
use Rattle.program_report.specs.Needs.{in_parts}
use Rattle.program_report.proofs.missing.in_parts.Given as goal

-- what is left decides
abbrev pub invariant-loop-part : goal.invariant-loop-part
invariant-loop-part g l = record {
  image : g.T.Viewed.image l.image ≡ g.T.Viewed.image l.fn.image;
  rest : in_parts (g.T.Viewed.image l.fn.image) l.name l.rest ≡ in_parts (g.T.Viewed.image l.fn.image) l.name l.path;
}

abbrev pub decreases-loop-part : goal.decreases-loop-part
decreases-loop-part g l = length l.rest
