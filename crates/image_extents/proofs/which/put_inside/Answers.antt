use Rattle.std.proofs.Common.{subst, sym}
use Rattle.image_extents.specs.Apart.{AreApart}
use Rattle.image_extents.proofs.which.put_inside.Goals as goal

pub put_among-requires-clause-apart : goal.put_among-requires-clause-apart
put_among-requires-clause-apart g c = subst AreApart (sym c.as_slice.ensures.value) c.requires.apart
