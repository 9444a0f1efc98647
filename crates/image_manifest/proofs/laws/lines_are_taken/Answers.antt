use Rattle.manifest.specs.Printed.{first_number}
use Rattle.image_manifest.proofs.Taken.{are_taken}
use Rattle.image_manifest.proofs.laws.lines_are_taken.Goals as goal

pub returns : goal.returns
returns c = λ m volume rules h f. are_taken m rules (first_number volume) h f
