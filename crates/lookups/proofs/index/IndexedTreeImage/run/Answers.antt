use Rattle.lookups.proofs.index.IndexedTreeImage.run.Goals as goal

pub returns-clause-row : goal.returns-clause-row
returns-clause-row g c = c.run.ensures.row

pub returns-clause-whole : goal.returns-clause-whole
returns-clause-whole g c = c.run.ensures.whole
