use Rattle.std.proofs.Common.{◌++◌, ◌∷◌}
use Rattle.program_report.proofs.Places.{too_long}
use Rattle.program_report.proofs.missing.has_file.Goals as goal

pub returns-then-not-join-clause-is : goal.returns-then-not-join-clause-is
returns-then-not-join-clause-is g c =
    too_long (g.T.Viewed.image c.args.image.now) (c.args.directory.now ++ 47 ∷ c.args.name.now) c.if-not-join.ensures
