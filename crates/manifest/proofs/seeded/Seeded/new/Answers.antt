use Rattle.std.proofs.Common.{rules}
use Rattle.manifest.proofs.seeded.Seeded.new.Goals as goal

pub returns : goal.returns
returns c = search rules
