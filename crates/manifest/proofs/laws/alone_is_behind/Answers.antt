use Rattle.manifest.proofs.Behind.{behind}
use Rattle.manifest.proofs.laws.alone_is_behind.Goals as goal

pub returns : goal.returns
returns c = behind
