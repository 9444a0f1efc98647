use Rattle.image_stream.proofs.Answering.{grew_join}
use Rattle.image_stream.proofs.measure.measure.Goals as goal

pub returns-in-Ok-false-reaches-clause-grew : goal.returns-in-Ok-false-reaches-clause-grew
returns-in-Ok-false-reaches-clause-grew g c =
    grew_join (g.S.Sources.IsLog c.args.sources.now) (g.S.Sources.IsLog c.reaches.new.sources)
    (g.S.Sources.IsLog c.reaches-2.new.sources) c.in-Ok-true.ensures.grew c.in-Ok-false-reaches.ensures.grew

pub returns-in-Ok-true-reaches-clause-ok : goal.returns-in-Ok-true-reaches-clause-ok
returns-in-Ok-true-reaches-clause-ok g c = record {}
