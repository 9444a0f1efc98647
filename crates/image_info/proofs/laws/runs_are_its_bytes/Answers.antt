use Rattle.image_info.proofs.Lying.{runs_lie}
use Rattle.image_info.proofs.laws.runs_are_its_bytes.Goals as goal

pub returns : goal.returns
returns c = λ m x h. runs_lie m x h
