use Rattle.headline.proofs.Again.{built_again}
use Rattle.headline.proofs.laws.built_again_is_alike.Goals as goal

pub returns : goal.returns
returns c = built_again
