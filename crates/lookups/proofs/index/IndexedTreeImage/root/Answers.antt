use Rattle.lookups.proofs.index.IndexedTreeImage.root.Goals as goal

pub returns : goal.returns
returns g c = c.root.ensures
