use Rattle.lookups.proofs.index.IndexedTreeImage.entry.Goals as goal

pub returns : goal.returns
returns g c = c.entry.ensures
