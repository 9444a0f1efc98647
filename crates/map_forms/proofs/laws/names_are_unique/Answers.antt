use Rattle.map_forms.proofs.Unique.{same_macro}
use Rattle.map_forms.proofs.laws.names_are_unique.Goals as goal

pub returns : goal.returns
returns c = λ prefix a b h k e. same_macro prefix a b h k e
