use Rattle.image_manifest.proofs.Sourced.{are_sources}
use Rattle.image_manifest.proofs.laws.sources_are_files.Goals as goal

pub returns : goal.returns
returns c = are_sources
