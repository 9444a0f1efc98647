use Rattle.record_forest.proofs.Run.{forest_of}
use Rattle.record_forest.proofs.Back.{clean_of}
use Rattle.record_forest.proofs.laws.exact.Goals as goal

pub returns-clause-forest : goal.returns-clause-forest
returns-clause-forest g c = λ most f h. clean_of c.requires h

pub returns-clause-clean : goal.returns-clause-clean
returns-clause-clean g c = λ most clean. forest_of (g.R.Records.references c.args.records.now)
    (g.R.Records.sound c.args.records.now) most c.requires clean
