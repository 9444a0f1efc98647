use Rattle.image_build.proofs.build.build_cramfs.Goals as goal

pub returns-clause-ok : goal.returns-clause-ok
returns-clause-ok c = c.build.ensures.ok

pub returns-clause-err : goal.returns-clause-err
returns-clause-err c = c.build.ensures.err
