use Rattle.std.proofs.Common.{refl}
use Rattle.lookups.proofs.index.IndexedTreeImage.stat.Goals as goal

pub stat-requires : goal.stat-requires
stat-requires g c κs = ((refl, tt), c.requires)

pub returns : goal.returns
returns g c = c.stat.ensures
