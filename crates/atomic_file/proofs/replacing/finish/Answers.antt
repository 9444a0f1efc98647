use Rattle.std.proofs.Common.{refl}
use Rattle.atomic_file.proofs.Finishes.{written, moments_of, replaced_of, kept_of, moments_apart, kept_apart}
use Rattle.atomic_file.proofs.replacing.finish.Goals as goal

pub returns-in-Err-clause-any_moment : goal.returns-in-Err-clause-any_moment
returns-in-Err-clause-any_moment g c = λ old begun.
    moments_apart c.args.names (g.S.Fill.writes c.args.source.now c.fill.new.self g.D.Directory.fresh)
    c.requires.distinct old _ _
    (c.abandon.ensures.any_moment c.args.names old begun)

pub returns-in-Err-clause-err : goal.returns-in-Err-clause-err
returns-in-Err-clause-err g c = λ old begun.
    kept_apart c.args.names (g.S.Fill.writes c.args.source.now c.fill.new.self g.D.Directory.fresh)
    c.requires.distinct old _ _
    (c.abandon.ensures.any_moment c.args.names old begun) (c.abandon.ensures.no_part c.args.names old begun)

pub returns-in-Ok-keep-clause-any_moment : goal.returns-in-Ok-keep-clause-any_moment
returns-in-Ok-keep-clause-any_moment g c = λ old begun.
    moments_of c.args.names _ (g.S.Fill.writes c.args.source.now c.fill.new.self g.D.Directory.fresh)
    (written (g.S.Fill.writes c.args.source.now c.fill.new.self)
    g.D.Directory.fresh _ _ c.requires.empty c.in-Ok.ensures.ok) old _ _
    (c.keep.ensures.any_moment old begun)

pub returns-in-Ok-keep-clause-ok : goal.returns-in-Ok-keep-clause-ok
returns-in-Ok-keep-clause-ok g c = λ old begun.
    replaced_of c.args.names _ (g.S.Fill.writes c.args.source.now c.fill.new.self g.D.Directory.fresh)
    (written (g.S.Fill.writes c.args.source.now c.fill.new.self)
    g.D.Directory.fresh _ _ c.requires.empty c.in-Ok.ensures.ok) old _
    (c.in-Ok-keep.ensures.ok old begun)

pub returns-in-Err-keep-clause-any_moment : goal.returns-in-Err-keep-clause-any_moment
returns-in-Err-keep-clause-any_moment g c = λ old begun.
    moments_of c.args.names _ (g.S.Fill.writes c.args.source.now c.fill.new.self g.D.Directory.fresh)
    (written (g.S.Fill.writes c.args.source.now c.fill.new.self)
    g.D.Directory.fresh _ _ c.requires.empty c.in-Ok.ensures.ok) old _ _
    (c.keep.ensures.any_moment old begun)

pub returns-in-Err-keep-clause-err : goal.returns-in-Err-keep-clause-err
returns-in-Err-keep-clause-err g c = λ old begun.
    kept_of c.args.names _ (g.S.Fill.writes c.args.source.now c.fill.new.self g.D.Directory.fresh)
    (written (g.S.Fill.writes c.args.source.now c.fill.new.self)
    g.D.Directory.fresh _ _ c.requires.empty c.in-Ok.ensures.ok) old _
    (c.in-Err-keep.ensures.err old begun)

pub returns-in-Err-keep-clause-cause : goal.returns-in-Err-keep-clause-cause
returns-in-Err-keep-clause-cause g c = (
  _,
  written (g.S.Fill.writes c.args.source.now c.fill.new.self) g.D.Directory.fresh _ _ c.requires.empty
      c.in-Ok.ensures.ok _ refl,
  c.in-Err-keep.ensures.cause,
)
