use Rattle.lookups.proofs.cache.Cached.held.Goals as goal

pub returns-clause-kept : goal.returns-clause-kept
returns-clause-kept g c = c.len.ensures.len
