use Rattle.program_pages.proofs.Files.{in_place}
use Rattle.program_pages.proofs.laws.aligned_is_in_place.Goals as goal

pub returns : goal.returns
returns c = in_place
