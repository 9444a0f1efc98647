use Rattle.build_commands.proofs.Brought.{fits}
use Rattle.build_commands.proofs.laws.nearest_fits.Goals as goal

pub returns : goal.returns
returns c = fits
