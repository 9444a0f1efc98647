use Rattle.manifest.specs.Printed.{first_number}
use Rattle.image_manifest.proofs.Excepted.{excepted}
use Rattle.image_manifest.proofs.laws.taken_only_then.Goals as goal

pub returns : goal.returns
returns c = λ m volume rules t. excepted m rules (first_number volume) t
