use Rattle.atomic_file.proofs.Finishes.{keep_moments, keep_ok, keep_durable, keep_err}
use Rattle.atomic_file.proofs.keeping.keep.Goals as goal

pub returns-clause-any_moment : goal.returns-clause-any_moment
returns-clause-any_moment g c = keep_moments c.args.names c.args.begun.name
    (g.D.Part.ByteWrite.output c.args.begun.part).contents _ _ c.requires.distinct c.run.result c.run.ensures.done
    c.run.ensures.stopped

pub returns-clause-ok : goal.returns-clause-ok
returns-clause-ok g c = keep_ok c.args.names c.args.begun.name
    (g.D.Part.ByteWrite.output c.args.begun.part).contents _ _ c.requires.distinct c.run.result c.run.ensures.done

pub returns-clause-durable : goal.returns-clause-durable
returns-clause-durable g c = keep_durable c.args.names c.args.begun.name
    (g.D.Part.ByteWrite.output c.args.begun.part).contents _ _ c.requires.distinct c.run.result c.run.ensures.done

pub returns-clause-err : goal.returns-clause-err
returns-clause-err g c = keep_err c.args.names c.args.begun.name
    (g.D.Part.ByteWrite.output c.args.begun.part).contents _ _ c.requires.distinct c.run.result c.run.ensures.stopped
