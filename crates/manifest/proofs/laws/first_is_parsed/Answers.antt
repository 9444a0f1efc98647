use Rattle.manifest.proofs.FirstFault.{first_is_parsed}
use Rattle.manifest.proofs.laws.first_is_parsed.Goals as goal

pub returns : goal.returns
returns c = first_is_parsed
