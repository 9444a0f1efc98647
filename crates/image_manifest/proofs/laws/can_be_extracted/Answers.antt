use Rattle.image_manifest.proofs.Extractable.{extractable}
use Rattle.image_manifest.proofs.Made.{can_be_made}
use Rattle.image_manifest.proofs.laws.can_be_extracted.Goals as goal

pub returns-clause-all : goal.returns-clause-all
returns-clause-all c = extractable

pub returns-clause-some : goal.returns-clause-some
returns-clause-some c = can_be_made
