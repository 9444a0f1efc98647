use Rattle.lookups.proofs.cache.CachedTreeImage.root.Goals as goal

pub returns : goal.returns
returns g c = c.root.ensures
