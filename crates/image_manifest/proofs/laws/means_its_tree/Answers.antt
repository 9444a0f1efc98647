use Rattle.image_manifest.proofs.Meaning.{meant}
use Rattle.image_manifest.proofs.laws.means_its_tree.Goals as goal

pub returns : goal.returns
returns c = meant
