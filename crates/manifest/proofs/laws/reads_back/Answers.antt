use Rattle.manifest.proofs.ReadBack.{reads}
use Rattle.manifest.proofs.laws.reads_back.Goals as goal

pub returns : goal.returns
returns c = reads
