use Rattle.library_tests.proofs.Lawful.{lawful}
use Rattle.library_tests.proofs.extracted.sample_is_lawful.Goals as goal

pub returns : goal.returns
returns c = lawful
