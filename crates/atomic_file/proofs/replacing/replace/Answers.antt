use Rattle.atomic_file.proofs.Finishes.{moments_apart, kept_tried, joined}
use Rattle.atomic_file.proofs.replacing.replace.Goals as goal

pub returns-in-Err-clause-any_moment : goal.returns-in-Err-clause-any_moment
returns-in-Err-clause-any_moment g c =
    moments_apart c.args.names (g.S.Fill.writes c.args.source.now c.args.source.now g.D.Directory.fresh)
    c.requires.distinct _ _ _
    c.begin.ensures.any_moment

pub returns-in-Err-clause-err : goal.returns-in-Err-clause-err
returns-in-Err-clause-err g c =
    kept_tried c.args.names (g.S.Fill.writes c.args.source.now c.args.source.now g.D.Directory.fresh)
    c.requires.distinct _ _
    c.in-Err.ensures.err

pub returns-in-Ok-finish-clause-any_moment : goal.returns-in-Ok-finish-clause-any_moment
returns-in-Ok-finish-clause-any_moment g c =
    joined c.args.names (g.S.Fill.writes c.args.source.now c.finish.new.source g.D.Directory.fresh)
    c.requires.distinct _ _ _
    c.begin.ensures.any_moment (c.finish.ensures.any_moment _ c.in-Ok.ensures.begun)

pub returns-in-Err-finish-clause-any_moment : goal.returns-in-Err-finish-clause-any_moment
returns-in-Err-finish-clause-any_moment g c =
    joined c.args.names (g.S.Fill.writes c.args.source.now c.finish.new.source g.D.Directory.fresh)
    c.requires.distinct _ _ _
    c.begin.ensures.any_moment (c.finish.ensures.any_moment _ c.in-Ok.ensures.begun)
