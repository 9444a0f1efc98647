use Rattle.map_forms.proofs.Values.{values_are}
use Rattle.map_forms.proofs.laws.values_are_places.Goals as goal

pub returns : goal.returns
returns c = λ f chosen prefix base size t. values_are f chosen prefix base size t
