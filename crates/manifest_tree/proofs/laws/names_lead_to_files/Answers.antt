use Rattle.manifest_tree.proofs.Law.{law_of_names}
use Rattle.manifest_tree.proofs.laws.names_lead_to_files.Goals as goal

pub returns : goal.returns
returns c = law_of_names
