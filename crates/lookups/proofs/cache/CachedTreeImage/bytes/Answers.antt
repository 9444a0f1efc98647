use Rattle.lookups.proofs.cache.CachedTreeImage.bytes.Goals as goal

pub returns : goal.returns
returns g c = c.bytes.ensures
