use Rattle.headline.proofs.Accepted.{lawful}
use Rattle.headline.proofs.laws.accepted_is_lawful.Goals as goal

pub returns : goal.returns
returns c = lawful
