use Rattle.program_pages.proofs.Files.{run_whole}
use Rattle.program_pages.proofs.laws.run_is_whole.Goals as goal

pub returns : goal.returns
returns c = run_whole
