use Rattle.program_pages.proofs.Files.{run_mapped}
use Rattle.program_pages.proofs.laws.run_is_mapped.Goals as goal

pub returns : goal.returns
returns c = run_mapped
