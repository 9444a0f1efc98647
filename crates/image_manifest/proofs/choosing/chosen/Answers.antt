use Rattle.std.proofs.Common.{map}
use Rattle.image_manifest.proofs.choosing.chosen.Goals as goal

pub returns : goal.returns
returns c = c.with_directories.ensures (map (λ p. p.items) c.args.patterns.now) c.in_ok-found.ensures
