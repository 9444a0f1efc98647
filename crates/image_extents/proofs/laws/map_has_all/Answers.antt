use Rattle.image_extents.proofs.MapLines.{line_among}
use Rattle.image_extents.proofs.laws.map_has_all.Goals as goal

pub returns : goal.returns
returns c = λ base file e x i h k. line_among base file e x i h k
