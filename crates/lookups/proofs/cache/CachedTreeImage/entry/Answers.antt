use Rattle.lookups.proofs.cache.CachedTreeImage.entry.Goals as goal

pub returns : goal.returns
returns g c = c.entry.ensures
