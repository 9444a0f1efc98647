use Rattle.image_stream.proofs.Laid.{image_laid}
use Rattle.image_stream.proofs.laws.image_is_laid.Goals as goal

pub returns : goal.returns
returns c = image_laid
