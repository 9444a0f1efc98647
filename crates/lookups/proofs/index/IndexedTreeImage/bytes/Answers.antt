use Rattle.lookups.proofs.index.IndexedTreeImage.bytes.Goals as goal

pub returns : goal.returns
returns g c = c.bytes.ensures
